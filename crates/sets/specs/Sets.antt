-- Inner: the index of the read set: links, each a member's place plus 1, or 0 for none. A member has two, one for each bit that
-- may come next in the key of a location; the links before those of the members are heads, and a location starts at one of them.
use Rattle.std.specs.Prelude.{ℕ, zero, suc, ◌+◌, ◌*◌, ◌/◌, ◌%◌, ◌^◌, ◌<◌, ◌≤◌, ◌≢◌, List, ◌≡◌, false, cond, get_or}
use Rattle.passes.specs.declared.symbol.Loc.{Loc}
use Rattle.passes.specs.Color.{pairs_from, is_member, same_loc, loc}

-- the location whose words are a list's jth pair
abbrev pub pair_at : List ℕ → ℕ → Loc
pair_at t j = loc (get_or t (j * 2) 0) (get_or t (j * 2 + 1) 0)

-- a location's head and its key; the link at a place, which has 24 bits in two parts
abbrev pub bucket : Loc → ℕ → ℕ
bucket l heads = (((l.index * 2654435769 + l.space * 1000003) % 4294967296) * heads) / 4294967296

abbrev pub key : Loc → ℕ
key l = l.space * 4294967296 + l.index

abbrev pub link : List ℕ → List ℕ → ℕ → ℕ
link low high k = get_or high k 0 * 65536 + get_or low k 0

-- there is a head, and a link for each head and each word
pub record Roomy (heads words low high : ℕ) : Type 0 where
  pub some : 0 < heads
  pub in_low : heads + words ≤ low
  pub in_high : heads + words ≤ high
  pub small : heads + words ≤ 16777216

-- a walk that has come to a place, with these bits of the key left, goes on to member j
pub data Path (at : ℕ → ℕ) (heads j : ℕ) : ℕ → ℕ → Type 0 where
  here : {k bits : ℕ} → at k ≡ j + 1 → Path at heads j k bits
  there : {k bits : ℕ} (w : ℕ) → at k ≡ w + 1 → Path at heads j (heads + (w * 2 + bits % 2)) (bits / 2) → Path at heads j k bits

-- links go up, to members, only one to each, and the walk for each member comes to it
pub record Indexed (words : List ℕ) (n heads : ℕ) (at : ℕ → ℕ) : Type 0 where
  pub up : (k w : ℕ) → at k ≡ w + 1 → (k < heads + w * 2) × (w < n)
  pub once : (i k w : ℕ) → at i ≡ w + 1 → at k ≡ w + 1 → i ≡ k
  pub paths : (j : ℕ) → j < n → ∥ Path at heads j (bucket (pair_at words j) heads) (key (pair_at words j)) ∥₁

-- the walk for a location that is no member ends at a place with no link; with one to the next member it goes on to that
pub record Ends (words : List ℕ) (n heads : ℕ) (at : ℕ → ℕ) (l : Loc) (k : ℕ) : Type 0 where
  pub absent : is_member l (pairs_from words 0 n) ≡ false
  pub inside : k < heads + n * 2
  pub empty : at k ≡ 0
  pub leads : (at' : ℕ → ℕ) → ((i : ℕ) → i ≢ k → at' i ≡ at i) → at' k ≡ n + 1 → Path at' heads n (bucket l heads) (key l)

-- how many members the walk for a location passes in its next steps, f at most, from a link on, with these bits of the key left;
-- the location itself is the last one that it passes
unfoldable pub passed : List ℕ → ℕ → (ℕ → ℕ) → Loc → ℕ → ℕ → ℕ → ℕ
passed words heads at l zero v bits = 0
passed words heads at l (suc f) zero bits = 0
passed words heads at l (suc f) (suc w) bits =
    suc (cond (same_loc (pair_at words w) l) 0 (passed words heads at l f (at (heads + (w * 2 + bits % 2))) (bits / 2)))

-- the index is a word, and the key has n bits at most
pub record Bits (n : ℕ) (l : Loc) : Type 0 where
  pub word : l.index < 4294967296
  pub below : key l < 2 ^ n
