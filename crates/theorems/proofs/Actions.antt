-- An action is known by its tag, its place in the enum: two are the same, or they are not; and what holds at each tag that
-- an arm of a match takes holds in the arm.
-- The tag gives the action back.
use Prim.Native.Nat.{ℕ}
use mathlib.Core.List.{List, [], ◌∷◌}
use mathlib.Core.Logic.{◌⊎◌, inl, inr, ⊎_elim}
use mathlib.Core.Path.{◌≡◌, refl, sym, ap, subst, ◌∙◌}
use lib.ListN.{get_or}
use denote.Enum.Declared.{tag_of}
use types.Run.{OneOf}
use Rattle.mir.proofs.Clash.{same_or}
use Rattle.mir.specs.contracts.shape.Action.{the_type}
use Rattle.mir.specs.declared.shape.Action.{Action}
use Rattle.mir.specs.declared.shape.Action.TheVariants as action

abbrev pub tag : Action → ℕ
tag a = tag_of the_type a

abbrev pub tagged : ℕ → Action
tagged k =
    get_or
    (action.Mov ∷ action.Load ∷ action.Save ∷ action.LoadComplex ∷ action.SaveComplex ∷ action.LoadArgs ∷ action.Clear ∷ [])
    k
    action.Other

back : (a : Action) → tagged (tag a) ≡ a
back action.Mov = refl
back action.Load = refl
back action.Save = refl
back action.LoadComplex = refl
back action.SaveComplex = refl
back action.LoadArgs = refl
back action.Clear = refl
back action.Other = refl

pub same_action : (a b : Action) → (a ≡ b) ⊎ (a ≡ b → ⊥)
same_action a b = go (same_or (tag a) (tag b))
  where
    go : (tag a ≡ tag b) ⊎ (tag a ≡ tag b → ⊥) → (a ≡ b) ⊎ (a ≡ b → ⊥)
    go (inl e) = inl (sym (back a) ∙ (ap tagged e ∙ back b))
    go (inr h) = inr (λ e. h (ap tag e))

-- ---- an arm of a match

abbrev pub AtEach : (Action → Type 0) → List ℕ → Type 0
AtEach P [] = Unit {0}
AtEach P (k ∷ ks) = P (tagged k) × AtEach P ks

at_tag : (P : Action → Type 0) (k : ℕ) (a : Action) → P (tagged k) → tag a ≡ k → P a
at_tag P k a p e = subst P (ap tagged (sym e) ∙ back a) p

pub in_arm : (P : Action → Type 0) (ks : List ℕ) → AtEach P ks → (a : Action) → OneOf ks (tag a) → P a
in_arm P [] h a o = absurd o
in_arm P (k ∷ []) h a o = at_tag P k a h.0 o
in_arm P (k ∷ j ∷ ks) h a o = ⊎_elim (at_tag P k a h.0) (in_arm P (j ∷ ks) h.1 a) o
