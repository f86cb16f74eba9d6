-- What an action does to the colours after the destinations: lives stay but for a reset, and Save gives its location to
-- the source's colour alone.
-- By the laws of `map` and `set` at one colour.
use Rattle.mir.proofs.Renaming.{set_cases}
use Rattle.std.specs.Prelude.{Some, None}
use Prim.Native.Nat.{ℕ, zero, suc}
use mathlib.Core.Bool.{Bool, true, false, cond}
use mathlib.Core.List.{List}
use mathlib.Core.Logic.{◌⊎◌, inl, inr, ⊎_elim}
use mathlib.Core.Path.{◌≡◌, refl, sym, ap, ◌∙◌}
use lib.ListN.{length, get_or, set, replicate, length-set, length-map, get_or-map}
use Rattle.mir.specs.declared.shape.Action.{Action}
use Rattle.mir.specs.declared.shape.Action.TheVariants as action
use Rattle.mir.specs.Records.{is_gen, max_regs}
use Rattle.mir.proofs.Clash.{clash}
use Rattle.mir.proofs.Passing.{map_set}
use Rattle.passes.specs.declared.alloc.Alloc.{Alloc}
use Rattle.passes.specs.declared.symbol.Loc.{Loc}
use Rattle.passes.specs.Color.{alloc, colour_at, same_loc, holds, without, clear, give, update_allocs, partner, blank}

-- ---- clearing a location

pub clear_at : (l : Loc) (allocs : List Alloc) (c : ℕ) → colour_at (clear l allocs) c ≡ without l (colour_at allocs c)
clear_at l allocs c = get_or-map (without l) allocs c (alloc 0 None)

pub clear_life : (l : Loc) (allocs : List Alloc) (c : ℕ) → (colour_at (clear l allocs) c).life ≡ (colour_at allocs c).life
clear_life l allocs c = ap (λ (a : Alloc). a.life) (clear_at l allocs c)

pub clear_length : (l : Loc) (allocs : List Alloc) → length (clear l allocs) ≡ length allocs
clear_length l allocs = length-map allocs (without l)

-- ---- giving a location

pub give_life : (w : ℕ) (l : Loc) (allocs : List Alloc) (c : ℕ) → (colour_at (give w l allocs) c).life ≡ (colour_at allocs c).life
give_life w l allocs c = go (is_gen w)
  where
    new : Alloc
    new = alloc (colour_at allocs w).life (Some l)

    go : (b : Bool) → (colour_at (cond b (set allocs w new) allocs) c).life ≡ (colour_at allocs c).life
    go false = refl
    go true =
        ⊎_elim
        (λ (a : (c ≡ w) × (colour_at (set allocs w new) c ≡ new)). rw a.1 (rw a.0 refl))
        (λ (a : colour_at (set allocs w new) c ≡ colour_at allocs c). ap (λ (k : Alloc). k.life) a) (set_cases allocs w new (alloc 0 None) c)

pub give_length : (w : ℕ) (l : Loc) (allocs : List Alloc) → length (give w l allocs) ≡ length allocs
give_length w l allocs = go (is_gen w)
  where
    go : (b : Bool) → length (cond b (set allocs w (alloc (colour_at allocs w).life (Some l))) allocs) ≡ length allocs
    go true = length-set allocs w _
    go false = refl

-- clearing a location after another one was given is clearing it before
pub clear_give : (w : ℕ) (l k : Loc) (allocs : List Alloc) → same_loc l k ≡ false → clear k (give w l allocs) ≡ give w l (clear k allocs)
clear_give w l k allocs apart = go (is_gen w)
  where
    go : (b : Bool)
        → clear k (cond b (set allocs w (alloc (colour_at allocs w).life (Some l))) allocs)
        ≡ cond b (set (clear k allocs) w (alloc (colour_at (clear k allocs) w).life (Some l))) (clear k allocs)
    go false = refl
    go true = map_set (without k) allocs w (alloc (colour_at allocs w).life (Some l)) ∙ rw (apart, clear_life k allocs w)

-- ---- the actions

module _ (l : Loc) (x y : ℕ) (allocs : List Alloc) where
  pub update_life : (a : Action) → (a ≡ action.Clear → ⊥) → (c : ℕ) → (colour_at (update_allocs a l x y allocs) c).life ≡ (colour_at allocs c).life
  update_life action.Mov h c = refl
  update_life action.Load h c = refl
  update_life action.Save h c = give_life x l (clear l allocs) c ∙ clear_life l allocs c
  update_life action.LoadComplex h c = refl
  update_life action.SaveComplex h c =
      give_life y (partner l) (give x l (clear (partner l) (clear l allocs))) c
      ∙ (give_life x l (clear (partner l) (clear l allocs)) c ∙ (clear_life (partner l) (clear l allocs) c ∙ clear_life l allocs c))
  update_life action.LoadArgs h c = refl
  update_life action.Clear h c = absurd (h refl)
  update_life action.Other h c = refl

  pub update_length : (a : Action) → length allocs ≡ length blank → length (update_allocs a l x y allocs) ≡ length blank
  update_length action.Mov h = h
  update_length action.Load h = h
  update_length action.Save h = give_length x l (clear l allocs) ∙ (clear_length l allocs ∙ h)
  update_length action.LoadComplex h = h
  update_length action.SaveComplex h =
      give_length y (partner l) (give x l (clear (partner l) (clear l allocs)))
      ∙ (give_length x l (clear (partner l) (clear l allocs)) ∙ (clear_length (partner l) (clear l allocs) ∙ (clear_length l allocs ∙ h)))
  update_length action.LoadArgs h = h
  update_length action.Clear h = refl
  update_length action.Other h = h

-- a blank colour has no life and no location
pub blank_at : (k c : ℕ) → get_or (replicate k (alloc 0 None)) c (alloc 0 None) ≡ alloc 0 None
blank_at zero c = refl
blank_at (suc k) zero = refl
blank_at (suc k) (suc c) = blank_at k c

pub blank_life : (c : ℕ) → (colour_at blank c).life ≡ 0
blank_life c = ap (λ (a : Alloc). a.life) (blank_at max_regs c)

-- ---- who holds what after a Save of location l from colour word w

-- after clearing l, a colour holds what it held, and that is not l
cleared_holds : (l k : Loc) (a : Alloc) → (without l a).loc ≡ Some k → (a.loc ≡ Some k) × (holds (Some k) l ≡ false)
cleared_holds l k a e = go (holds a.loc l) refl
  where
    go : (b : Bool) → holds a.loc l ≡ b → (a.loc ≡ Some k) × (holds (Some k) l ≡ false)
    go true q =
        let f : None ≡ Some k = rw q at e in
        clash (cc)
    go false q =
        let f : a.loc ≡ Some k = rw q at e in
        (f, rw f at q)

-- after giving l to w, w holds l, or a colour holds what it held
pub saved_holds : (w : ℕ) (l : Loc) (allocs : List Alloc) (c : ℕ) (k : Loc) → (colour_at (give w l (clear l allocs)) c).loc ≡ Some k
    → ((c ≡ w) × (l ≡ k)) ⊎ (((colour_at allocs c).loc ≡ Some k) × (holds (Some k) l ≡ false))
saved_holds w l allocs c k e = go (is_gen w) e
  where
    new : Alloc
    new = alloc (colour_at (clear l allocs) w).life (Some l)

    old : (colour_at (clear l allocs) c).loc ≡ Some k → ((c ≡ w) × (l ≡ k)) ⊎ (((colour_at allocs c).loc ≡ Some k) × (holds (Some k) l ≡ false))
    old q = inr (cleared_holds l k (colour_at allocs c) (sym (ap (λ (a : Alloc). a.loc) (clear_at l allocs c)) ∙ q))

    go : (b : Bool) → (colour_at (cond b (set (clear l allocs) w new) (clear l allocs)) c).loc ≡ Some k
        → ((c ≡ w) × (l ≡ k)) ⊎ (((colour_at allocs c).loc ≡ Some k) × (holds (Some k) l ≡ false))
    go false q = old q
    go true q =
        ⊎_elim
        (λ (a : (c ≡ w) × (colour_at (set (clear l allocs) w new) c ≡ new)).
        let f : Some l ≡ Some k = sym (ap (λ (j : Alloc). j.loc) a.1) ∙ q in
        let z : l ≡ k = cc in
        inl (a.0, z))
        (λ (a : colour_at (set (clear l allocs) w new) c ≡ colour_at (clear l allocs) c). old (sym (ap (λ (j : Alloc). j.loc) a) ∙ q))
        (set_cases (clear l allocs) w new (alloc 0 None) c)

pub blank_nothing : (c : ℕ) → (colour_at blank c).loc ≡ None
blank_nothing c = ap (λ (a : Alloc). a.loc) (blank_at max_regs c)

pub no_location : (c : ℕ) (l : Loc) → (colour_at blank c).loc ≡ Some l → ⊥
no_location c l q =
    let f = blank_nothing c in
    clash (cc)
