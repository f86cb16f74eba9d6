-- What a choice of section 3 comes to: a found colour holds the location, a free one is free, and `Empty` says that no
-- colour is free.
-- By the one law of `first_below`, that it gives a number below the count with the property, or that there is none.
use Rattle.std.specs.Prelude.{Option, Some, None}
use Prim.Native.Nat.{ℕ, zero, suc, ◌≤◌, ◌<◌}
use mathlib.Core.Bool.{Bool, true, false, cond, ◌&&◌}
use mathlib.Core.List.{List}
use mathlib.Core.Logic.{⊎_elim}
use mathlib.Core.Path.{◌≡◌, refl, ap, ◌∙◌}
use native.Mathlib.Omega.{arith}
use lib.Dec.{eqb}
use borrow.Author.Tests.{eqb-true, eq-eqb, leb-true, leb-false}
use Rattle.mir.proofs.Clash.{clash}
use Rattle.mir.proofs.Folds.{below_suc}
use Rattle.mir.proofs.Renaming.{and_both}
use Rattle.passes.specs.declared.alloc.Alloc.{Alloc}
use Rattle.passes.specs.declared.alloc.Choice.TheVariants.{Found, Free, Empty}
use Rattle.passes.specs.declared.symbol.Loc.{Loc}
use Rattle.passes.specs.Color.{Coloring, HasPool, colour_at, is_free, is_found, is_bare, holds, holds_at, same_loc, or_next, first_below}
use Rattle.passes.specs.Color.{free_or, found_or, plain_choice, choose}

module _ (p : ℕ → Bool) where
  pub first_some : (n c : ℕ) → first_below p n ≡ Some c → (c < n) × (p c ≡ true)
  unfolding first_below
  first_some zero c e = clash (cc)
  first_some (suc n) c e = go (first_some n c) (first_below p n) refl (p n) refl e
    where
      go : (first_below p n ≡ Some c → (c < n) × (p c ≡ true)) → (o : Option ℕ) → first_below p n ≡ o
          → (b : Bool) → p n ≡ b → or_next o (cond b (Some n) None) ≡ Some c → (c < suc n) × (p c ≡ true)
      go up (Some k) q b r f =
          let h = up (q ∙ f) in
          (omega (arith, h.0), h.1)
      go up None q true r f =
          let t : n ≡ c = cc in
          (omega arith, rw (← t) r)
      go up None q false r f = clash (cc)

  pub first_none : (n c : ℕ) → first_below p n ≡ None → c < n → p c ≡ false
  unfolding first_below
  first_none zero c e l = absurd (omega arith)
  first_none (suc n) c e l = go (first_none n c) (first_below p n) refl (p n) refl e
    where
      go : (first_below p n ≡ None → c < n → p c ≡ false) → (o : Option ℕ) → first_below p n ≡ o
          → (b : Bool) → p n ≡ b → or_next o (cond b (Some n) None) ≡ None → p c ≡ false
      go up (Some k) q b r f = cc
      go up None q true r f = cc
      go up None q false r f = ⊎_elim (λ (h : c < n). up q h) (λ (h : c ≡ n). rw h r) (below_suc l)

-- two locations are the same if their tests say so
pub same_loc_lem : (l m : Loc) → same_loc l m ≡ true → l ≡ m
same_loc_lem l m h =
    let b = and_both (eqb l.space m.space) (eqb l.index m.index) h in
    let s : l.space ≡ m.space = eqb-true _ _ b.0 in
    let x : l.index ≡ m.index = eqb-true _ _ b.1 in
    λ i. record { space = s i; index = x i }

pub loc_same : (l : Loc) → same_loc l l ≡ true
loc_same l = rw (eq-eqb l.space l.space refl, eq-eqb l.index l.index refl)

pub holds_at_lem : (h : Option Loc) (l : Loc) → holds h l ≡ true → h ≡ Some l
holds_at_lem None l e = cc
holds_at_lem (Some m) l e = ap Some (same_loc_lem m l e)

module _ (n i : ℕ) (allocs : List Alloc) where
  plain_free : (c : ℕ) → plain_choice n i allocs ≡ Free c → (c < n) × (is_free i allocs c ≡ true)
  unfolding plain_choice
  plain_free c e = go (first_below (λ k. is_free i allocs k && is_bare allocs k) n) refl e
    where
      second : (o : Option ℕ) → first_below (is_free i allocs) n ≡ o → free_or o Empty ≡ Free c → (c < n) × (is_free i allocs c ≡ true)
      second (Some k) q f =
          let t : k ≡ c = cc in
          first_some (is_free i allocs) n c (q ∙ ap Some t)
      second None q f = clash (cc)

      go : (o : Option ℕ) → first_below (λ k. is_free i allocs k && is_bare allocs k) n ≡ o
          → free_or o (free_or (first_below (is_free i allocs) n) Empty) ≡ Free c → (c < n) × (is_free i allocs c ≡ true)
      go (Some k) q f =
          let t : k ≡ c = cc in
          let h = first_some (λ k. is_free i allocs k && is_bare allocs k) n c (q ∙ ap Some t) in
          (h.0, (and_both (is_free i allocs c) (is_bare allocs c) h.1).0)
      go None q f = second (first_below (is_free i allocs) n) refl f

  plain_not_found : (c : ℕ) → plain_choice n i allocs ≡ Found c → ⊥
  unfolding plain_choice
  plain_not_found c e = go (first_below (λ k. is_free i allocs k && is_bare allocs k) n) (first_below (is_free i allocs) n) e
    where
      go : (o q : Option ℕ) → free_or o (free_or q Empty) ≡ Found c → ⊥
      go (Some k) q f = clash (cc)
      go None (Some k) f = clash (cc)
      go None None f = clash (cc)

  plain_empty : plain_choice n i allocs ≡ Empty → (c : ℕ) → c < n → is_free i allocs c ≡ false
  unfolding plain_choice
  plain_empty e c l = go (first_below (λ k. is_free i allocs k && is_bare allocs k) n) (first_below (is_free i allocs) n) refl e
    where
      go : (o q : Option ℕ) → first_below (is_free i allocs) n ≡ q → free_or o (free_or q Empty) ≡ Empty → is_free i allocs c ≡ false
      go (Some k) q r f = cc
      go None (Some k) r f = cc
      go None None r f = first_none (is_free i allocs) n c r l

  -- a free colour is below the count, and its life is at most i
  pub choose_free : (h : Option Loc) (c : ℕ) → choose n i h allocs ≡ Free c → (c < n) × ((colour_at allocs c).life ≤ i)
  unfolding choose
  choose_free None c e =
      let f = plain_free c e in
      (f.0, leb-true (colour_at allocs c).life i f.1)
  choose_free (Some l) c e = go (first_below (holds_at allocs l) n) e
    where
      go : (o : Option ℕ) → found_or o (plain_choice n i allocs) ≡ Free c → (c < n) × ((colour_at allocs c).life ≤ i)
      go (Some k) f = clash (cc)
      go None f =
          let g = plain_free c f in
          (g.0, leb-true (colour_at allocs c).life i g.1)

  -- a found colour holds the location that was wanted
  pub choose_found : (h : Option Loc) (c : ℕ) → choose n i h allocs ≡ Found c → (c < n) × ((l : Loc) × (h ≡ Some l) × ((colour_at allocs c).loc ≡ Some l))
  unfolding choose
  choose_found None c e = absurd (plain_not_found c e)
  choose_found (Some l) c e = go (first_below (holds_at allocs l) n) refl e
    where
      go : (o : Option ℕ) → first_below (holds_at allocs l) n ≡ o → found_or o (plain_choice n i allocs) ≡ Found c
          → (c < n) × ((m : Loc) × (Some l ≡ Some m) × ((colour_at allocs c).loc ≡ Some m))
      go (Some k) q f =
          let t : k ≡ c = cc in
          let g = first_some (holds_at allocs l) n c (q ∙ ap Some t) in
          (g.0, (l, refl, holds_at_lem (colour_at allocs c).loc l g.1))
      go None q f = absurd (plain_not_found c f)

  -- an empty pool: every colour's life is above i
  pub choose_empty : (h : Option Loc) → choose n i h allocs ≡ Empty → (c : ℕ) → c < n → i < (colour_at allocs c).life
  unfolding choose
  choose_empty None e c l = leb-false (colour_at allocs c).life i (plain_empty e c l)
  choose_empty (Some m) e c l = go (first_below (holds_at allocs m) n) e
    where
      go : (o : Option ℕ) → found_or o (plain_choice n i allocs) ≡ Empty → i < (colour_at allocs c).life
      go (Some k) f = clash (cc)
      go None f = leb-false (colour_at allocs c).life i (plain_empty f c l)

-- a choice with a pool is not empty
pub pool_not_empty : (n i : ℕ) (h : Option Loc) (st : Coloring) → HasPool n i h st → choose n i h st.allocs ≡ Empty → ⊥
pool_not_empty n i h st p e =
    ⊎_elim
    (λ (f : is_found (choose n i h st.allocs) ≡ true).
    let q : is_found Empty ≡ true = rw e at f in
    clash (cc))
    (λ (f : (c : ℕ) × (c < n) × (is_free i st.allocs c ≡ true)).
    omega (arith, choose_empty n i st.allocs h e f.0 f.1, leb-true (colour_at st.allocs f.0).life i f.2))
    p
