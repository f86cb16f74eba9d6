-- Public: the index's definitions at their limits: heads, keys, links, walks to a member or to no link, and what they pass.
use Rattle.std.specs.Prelude.{◌≡◌, ℕ, zero, suc, ◌+◌, ◌*◌, List, [], ◌∷◌, get_or}
use Rattle.passes.specs.declared.symbol.Loc.{Loc}
use Rattle.passes.specs.Color.{loc}
use Rattle.sets.specs.Sets.{bucket, key, link, Path, passed}

-- one head, and members with keys 0, 2, 1 and 4, joined in this order: 2 and 1 are the first one's, and 4 is at 2's
abbrev pub at : ℕ → ℕ
at k = get_or (1 ∷ 2 ∷ 3 ∷ 4 ∷ []) k 0

abbrev pub four : List ℕ
four = 0 ∷ 0 ∷ 0 ∷ 2 ∷ 0 ∷ 1 ∷ 0 ∷ 4 ∷ []

-- two links to each member but the first: what `once` rules out
abbrev pub two_links : ℕ → ℕ
two_links k = get_or (1 ∷ 2 ∷ 2 ∷ 3 ∷ 3 ∷ 4 ∷ 4 ∷ []) k 0

-- a list as bad as can be for the location with space 2 and index 4294967295: each member but that agrees with it in one bit more
abbrev pub deep_words : ℕ → ℕ → List ℕ
deep_words zero x = 1 ∷ 4294967295 ∷ 0 ∷ 4294967295 ∷ 2 ∷ 4294967295 ∷ []
deep_words (suc n) x = 0 ∷ x ∷ deep_words n (x * 2 + 1)

abbrev pub deep_links : ℕ → ℕ → List ℕ
deep_links zero v = v ∷ 0 ∷ 0 ∷ (v + 1) ∷ []
deep_links (suc n) v = 0 ∷ v ∷ deep_links n (v + 1)

abbrev pub deep_at : ℕ → ℕ
deep_at k = get_or (1 ∷ deep_links 32 2) k 0

abbrev pub deep : ℕ → Loc → ℕ
deep f l = passed (deep_words 32 0) 1 deep_at l f 1 (key l)

pub record SetCases : Type 0 where
  -- the first head, the last one, and a space's share
  pub first : bucket (loc 0 0) 32768 ≡ 0
  pub last : bucket (loc 0 3954393975) 32768 ≡ 32767
  pub next_space : bucket (loc 1 0) 32768 ≡ 7
  pub single : bucket (loc 2 4294967295) 1 ≡ 0
  -- the index's bits come first, and then the space's
  pub low_key : key (loc 0 4294967295) ≡ 4294967295
  pub space_key : key (loc 1 0) ≡ 4294967296
  pub high_key : key (loc 2 4294967295) ≡ 12884901887
  -- both parts of a link, and no links past the arrays
  pub low_link : link (65535 ∷ []) (0 ∷ []) 0 ≡ 65535
  pub high_link : link (0 ∷ []) (1 ∷ []) 0 ≡ 65536
  pub largest_link : link (65535 ∷ []) (255 ∷ []) 0 ≡ 16777215
  pub past : link (65535 ∷ []) (255 ∷ []) 1 ≡ 0
  -- by bit 0 to 2, and on by bit 1 to 4; by bit 0 to 1
  pub to_four : Path at 1 3 0 4
  pub to_one : Path at 1 2 0 1
  -- with bit 1 set the walk comes to no link behind 2
  pub six : Path at 1 3 0 6 → ⊥
  -- members passed: the one at the head alone, two others, and itself; in one step; none from no link
  pub pass_zero : passed four 1 at (loc 0 0) 9 1 0 ≡ 1
  pub pass_four : passed four 1 at (loc 0 4) 9 1 4 ≡ 3
  pub pass_six : passed four 1 at (loc 0 6) 9 1 6 ≡ 2
  pub pass_once : passed four 1 at (loc 0 4) 1 1 4 ≡ 1
  pub pass_none : passed four 1 at (loc 0 4) 9 0 4 ≡ 0
  -- with two links to a member the bound would not hold: four members, where keys have two bits
  pub pass_two : passed (0 ∷ 3 ∷ 0 ∷ 2 ∷ 0 ∷ 1 ∷ 0 ∷ 0 ∷ []) 1 two_links (loc 0 0) 9 1 0 ≡ 4
  -- 35 are passed, and no more in more steps; the member of space 1 is the 33rd; with an even index 1 is passed
  pub pass_all : deep 35 (loc 2 4294967295) ≡ 35
  pub pass_no_more : deep 99 (loc 2 4294967295) ≡ 35
  pub pass_before : deep 99 (loc 1 4294967295) ≡ 33
  pub pass_even : deep 99 (loc 2 4294967294) ≡ 1
