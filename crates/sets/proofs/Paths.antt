-- The index of the read set: a walk for a location that ends at no link has passed no member that is the location, since the
-- walk for each member comes to it; and with the next member put there all the walks still do.
-- By induction on paths: each place that a path passes has a link, so a link put where there was none changes no path.
use Prim.Native.Nat.{ℕ, zero, suc, ◌+◌, ◌*◌, ◌-◌, ◌/◌, ◌%◌, ◌<◌, ◌≤◌}
use mathlib.Core.Bool.{Bool, true, false}
use mathlib.Core.List.{List}
use mathlib.Core.Logic.{◌⊎◌, inl, inr, ◌≢◌, ∥∥₁_map, ∥∥₁_elim}
use mathlib.Core.Path.{◌≡◌, refl, sym, ap, subst, ◌∙◌}
use native.Mathlib.Numerals.{add-one}
use native.Mathlib.Omega.{arith}
use lib.ListN.{length, get_or, set, replicate, length-set}
use lib.Seq.{get_or-set_same, get_or-set_other}
use borrow.Author.Tests.{eq-eqb}
use Rattle.mir.proofs.Clash.{clash, same_or}
use Rattle.passes.specs.declared.symbol.Loc.{Loc}
use Rattle.passes.specs.Color.{same_loc, pairs_from, is_member}
use Rattle.theorems.proofs.Choice.{same_loc_lem}
use Rattle.sets.specs.Sets.{pair_at, bucket, key, link, Path, here, there, Indexed, Ends}
use Rattle.sets.proofs.Pairs.{member_none, member_more}

-- ---- a link that is put is read, and elsewhere nothing changes

module _ (low high : List ℕ) (k v : ℕ) where
  pub link_same : k < length low → k < length high → link (set low k (v % 65536)) (set high k (v / 65536)) k ≡ v
  link_same a b = rw (get_or-set_same low k (v % 65536) 0 a, get_or-set_same high k (v / 65536) 0 b) (omega arith)

  pub link_other : (i : ℕ) → i ≢ k → link (set low k (v % 65536)) (set high k (v / 65536)) i ≡ link low high i
  link_other i e = rw (get_or-set_other low k i (v % 65536) 0 e, get_or-set_other high k i (v / 65536) 0 e) refl

-- ---- paths

module _ {at : ℕ → ℕ} {heads j : ℕ} where
  pub path_none : {k bits : ℕ} → Path at heads j k bits → at k ≡ 0 → ⊥
  path_none (here e) h = omega arith
  path_none (there w e r) h = omega arith

  pub path_next : {k bits : ℕ} (w : ℕ) → Path at heads j k bits → at k ≡ w + 1 → w ≢ j → Path at heads j (heads + (w * 2 + bits % 2)) (bits / 2)
  path_next w (here e) h other = absurd (other (omega arith))
  path_next {k} {bits} w (there v e r) h other =
      let same : v ≡ w = omega arith in
      rw same at r

  pub path_kept : {at' : ℕ → ℕ} {k bits : ℕ} → ((i w : ℕ) → at i ≡ w + 1 → at' i ≡ w + 1) → Path at heads j k bits → Path at' heads j k bits
  path_kept kept (here {k} e) = here (kept k j e)
  path_kept kept (there {k} w e r) = there w (kept k w e) (path_kept kept r)

-- a link goes up, to a member
pub goes_up : {words : List ℕ} {n heads : ℕ} {at : ℕ → ℕ} {k v : ℕ} → Indexed words n heads at → v ≡ at k → v ≢ 0 → (k < heads + (v - 1) * 2) × (v - 1 < n)
goes_up {k = k} {v = v} h e some = h.up k (v - 1) (omega arith)

-- ---- a walk

apart : {l : Loc} (m : Loc) → same_loc m l ≡ false → m ≢ l
apart {l} m e s =
    let t : same_loc m l ≡ true = subst (λ k. same_loc m k ≡ true) s (rw (eq-eqb m.space m.space refl, eq-eqb m.index m.index refl) refl) in
    clash (cc)

-- a walk for a location has come to a place: paths from there on are the location's, and lead to each member that it is
pub record Walk (words : List ℕ) (n heads : ℕ) (at : ℕ → ℕ) (l : Loc) (k bits : ℕ) : Type 0 where
  pub inside : k < heads + n * 2
  pub on : (at' : ℕ → ℕ) → ((i : ℕ) → i < k → at' i ≡ at i) → (j : ℕ) → Path at' heads j k bits → Path at' heads j (bucket l heads) (key l)
  pub meets : (j : ℕ) → j < n → pair_at words j ≡ l → ∥ Path at heads j k bits ∥₁

module _ {words : List ℕ} {n heads : ℕ} {at : ℕ → ℕ} (l : Loc) where
  module _ {k bits : ℕ} (h : Indexed words n heads at) (walk : Walk words n heads at l k bits) where
    pub walk_next : {v : ℕ} → v ≡ at k → v ≢ 0 → same_loc (pair_at words (v - 1)) l ≡ false → Walk words n heads at l (heads + ((v - 1) * 2 + bits % 2)) (bits / 2)
    walk_next {v} linked some other =
        let e : at k ≡ v - 1 + 1 = omega arith in
        let u = goes_up h linked some in
        record {
          inside = omega (arith, u);
          on = λ at' same j r. walk.on at' (λ i lt. same i (omega (arith, u.0))) j (there (v - 1) (same k (omega (arith, u.0)) ∙ e) r);
          meets = λ j lt m. ∥∥₁_map (walk.meets j lt m) (λ r. path_next (v - 1) r e (λ s. apart (pair_at words (v - 1)) other (ap (pair_at words) s ∙ m)));
        }

    not_here : at k ≡ 0 → (i : ℕ) → i < n → (b : Bool) → same_loc (pair_at words i) l ≡ b → b ≡ false
    not_here e i lt true s = absurd (∥∥₁_elim (walk.meets i lt (same_loc_lem (pair_at words i) l s)) (hlevel) (λ r. path_none r e))
    not_here e i lt false s = refl

    absent_to : at k ≡ 0 → (i : ℕ) → i ≤ n → is_member l (pairs_from words 0 i) ≡ false
    absent_to e zero lt = sym (member_none words l)
    absent_to e (suc i) lt =
        let more = member_more words l i (absent_to e i (omega arith)) (not_here e i (omega arith) (same_loc (pair_at words i) l) refl) in
        rw add-one at more

    pub walk_ends : at k ≡ 0 → Ends words n heads at l k
    walk_ends e =
        record {
          absent = absent_to e n (omega arith);
          inside = walk.inside;
          empty = e;
          leads = λ at' same put. walk.on at' (λ i lt. same i (λ s. omega arith)) n (here put);
        }

-- ---- one member more

module _ (words words' : List ℕ) {n heads : ℕ} {at : ℕ → ℕ} (at' : ℕ → ℕ) (l : Loc) {k : ℕ} (h : Indexed words n heads at) (ends : Ends words n heads at l k)
    (same : (i : ℕ) → i ≢ k → at' i ≡ at i) (put : at' k ≡ n + 1)
    (old : (j : ℕ) → j < n → pair_at words' j ≡ pair_at words j) (new : pair_at words' n ≡ l) where
  kept : (i w : ℕ) → at i ≡ w + 1 → at' i ≡ w + 1
  kept i w e = same i (λ s. let z : at i ≡ 0 = ap at s ∙ ends.empty in omega arith) ∙ e

  up : (i w : ℕ) → at' i ≡ w + 1 → (i < heads + w * 2) × (w < n + 1)
  up i w e = go (same_or i k)
    where
      go : (i ≡ k) ⊎ (i ≢ k) → (i < heads + w * 2) × (w < n + 1)
      go (inl s) = let z : at' i ≡ n + 1 = ap at' s ∙ put in (omega (arith, ends.inside), omega arith)
      go (inr s) = let u = h.up i w (sym (same i s) ∙ e) in (u.0, omega (arith, u.1))

  one_link : (i m w : ℕ) → at' i ≡ w + 1 → at' m ≡ w + 1 → i ≡ m
  one_link i m w a b = go (same_or i k) (same_or m k)
    where
      old_link : (x : ℕ) → x ≢ k → at' x ≡ w + 1 → at x ≡ w + 1
      old_link x s e = sym (same x s) ∙ e

      -- the link to the new member, and one to a member before it
      never : (x y : ℕ) → x ≡ k → y ≢ k → at' x ≡ w + 1 → at' y ≡ w + 1 → ⊥
      never x y s t e d =
          let z : at' x ≡ n + 1 = ap at' s ∙ put in
          let u = h.up y w (old_link y t d) in
          omega arith

      go : (i ≡ k) ⊎ (i ≢ k) → (m ≡ k) ⊎ (m ≢ k) → i ≡ m
      go (inl s) (inl t) = s ∙ sym t
      go (inl s) (inr t) = absurd (never i m s t a b)
      go (inr s) (inl t) = absurd (never m i t s b a)
      go (inr s) (inr t) = h.once i m w (old_link i s a) (old_link m t b)

  -- the walk for a location comes to member j
  abbrev Comes : ℕ → Loc → Type 0
  Comes j m = ∥ Path at' heads j (bucket m heads) (key m) ∥₁

  paths : (j : ℕ) → j < n + 1 → Comes j (pair_at words' j)
  paths j lt = go (same_or j n)
    where
      go : (j ≡ n) ⊎ (j ≢ n) → Comes j (pair_at words' j)
      go (inl s) =
          let next : Comes n l = ∣ ends.leads at' same put ∣₁ in
          subst (λ i. Comes i (pair_at words' i)) (sym s) (subst (Comes n) (sym new) next)
      go (inr s) =
          let in_old : j < n = omega arith in
          subst (Comes j) (sym (old j in_old)) (∥∥₁_map (h.paths j in_old) (path_kept kept))

  pub indexed_more : Indexed words' (n + 1) heads at'
  indexed_more = record { up = up; once = one_link; paths = paths }

-- the words of one member more
module _ (words : List ℕ) (n : ℕ) (l : Loc) (room : n * 2 + 2 ≤ length words) where
  abbrev more : List ℕ
  more = set (set words (n * 2) l.space) (n * 2 + 1) l.index

  kept_word : (k : ℕ) → k < n * 2 → get_or more k 0 ≡ get_or words k 0
  kept_word k lt =
      get_or-set_other (set words (n * 2) l.space) (n * 2 + 1) k l.index 0 (λ e. omega arith) ∙ get_or-set_other words (n * 2) k l.space 0 (λ e. omega arith)

  pub pair_old : (j : ℕ) → j < n → pair_at more j ≡ pair_at words j
  pair_old j lt = rw (kept_word (j * 2) (omega arith), kept_word (j * 2 + 1) (omega arith)) refl

  pub pair_new : pair_at more n ≡ l
  pair_new =
      let space : get_or more (n * 2) 0 ≡ l.space =
      get_or-set_other (set words (n * 2) l.space) (n * 2 + 1) (n * 2) l.index 0 (λ e. omega arith) ∙ get_or-set_same words (n * 2) l.space 0 (omega arith)
      in
      let index : get_or more (n * 2 + 1) 0 ≡ l.index =
      get_or-set_same (set words (n * 2) l.space) (n * 2 + 1) l.index 0 (omega (arith, length-set words (n * 2) l.space))
      in
      rw (space, index) refl

-- ---- no member yet

zeros : (n k : ℕ) → get_or {A = ℕ} (replicate n 0) k 0 ≡ 0
zeros zero k = refl
zeros (suc n) zero = refl
zeros (suc n) (suc k) = zeros n k

-- arrays of 0 have no links
pub no_links : (n m k : ℕ) → link (replicate n 0) (replicate m 0) k ≡ 0
no_links n m k = rw (zeros n k, zeros m k) refl
