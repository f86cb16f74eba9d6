-- By computation, colour by colour.
use Prim.Native.Nat.{ℕ, zero, suc, ◌<◌}
use mathlib.Core.Bool.{true}
use mathlib.Core.Logic.{inl, inr}
use mathlib.Core.Path.{◌≡◌, refl}
use native.Mathlib.Omega.{arith}
use Rattle.std.specs.Prelude.{Option, Some, None}
use Rattle.mir.proofs.Clash.{clash}
use Rattle.passes.specs.declared.symbol.Loc.{Loc}
use Rattle.passes.specs.Color.{loc, is_free, first_below, plain_choice, choose, choice_for, is_found, HasPool}
use Rattle.passes.specs.PoolCases.{both}
use Rattle.passes.proofs.laws.pool_cases.Goals as goal

needed : (c : ℕ) → c < 2 → is_free 3 both.allocs c ≡ true → ⊥
needed zero below free = clash (cc)
needed (suc zero) below free = clash (cc)
needed (suc (suc c)) below free = absurd (omega arith)

-- a choice that is not found has no pool at 3
no_pool : (h : Option Loc) → (is_found (choice_for 2 3 h both) ≡ true → ⊥) → HasPool 2 3 h both → ⊥
no_pool h lost (inl f) = lost f
no_pool h lost (inr p) = needed p.0 p.1 p.2

pub returns : goal.returns
unfolding first_below plain_choice choose
returns c =
    record {
      none = no_pool None (λ f. clash (cc));
      one = inr (0, omega arith, refl);
      found = inl refl;
      not_found = no_pool (Some (loc 1 8)) (λ f. clash (cc));
    }
