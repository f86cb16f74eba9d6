-- Two constructors are never equal; two numbers are the same, or not.
-- `cc` brings such an equation down to 0 and 1, and here the case ends: `clash (cc)`.
use Prim.Native.Nat.{ℕ}
use mathlib.Core.Bool.{Bool, true, false}
use mathlib.Core.Logic.{◌⊎◌, inl, inr}
use mathlib.Core.Path.{◌≡◌, refl}
use native.Mathlib.Omega.{arith}
use lib.Dec.{eqb}
use borrow.Author.Tests.{eqb-true, eqb-false}

pub clash {ℓ} : {P : Type ℓ} → ◌≡◌ {A = ℕ} 0 1 → P
clash e = absurd (omega arith)

pub same_or : (x k : ℕ) → (x ≡ k) ⊎ (x ≡ k → ⊥)
same_or x k = go (eqb x k) refl
  where
    go : (b : Bool) → eqb x k ≡ b → (x ≡ k) ⊎ (x ≡ k → ⊥)
    go true e = inl (eqb-true x k e)
    go false e = inr (eqb-false x k e)
