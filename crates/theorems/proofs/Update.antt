-- A function with another value at one place: what it gives there, and elsewhere; and one that never falls.
-- By the test of two numbers; by induction on how far apart they are.
use Prim.Native.Nat.{ℕ, zero, suc, ◌+◌, ◌≤◌}
use mathlib.Core.Bool.{cond}
use mathlib.Core.Logic.{◌⊎◌, inl, inr}
use mathlib.Core.Path.{◌≡◌, refl}
use native.Mathlib.Nat.{zero-add, suc-add}
use native.Mathlib.Omega.{arith}
use lib.Dec.{eqb}
use borrow.Author.Tests.{eq-eqb, ne_eqb}
use Rattle.mir.proofs.Clash.{same_or}

abbrev pub upd {ℓ} : {A : Type ℓ} → (ℕ → A) → ℕ → A → ℕ → A
upd f k a x = cond (eqb x k) a (f x)

pub upd_at {ℓ} : {A : Type ℓ} (f : ℕ → A) (k : ℕ) (a : A) → upd f k a k ≡ a
upd_at f k a = rw (eq-eqb k k refl)

pub upd_else {ℓ} : {A : Type ℓ} (f : ℕ → A) (k : ℕ) (a : A) (x : ℕ) → (x ≡ k → ⊥) → upd f k a x ≡ f x
upd_else f k a x h = rw (ne_eqb x k h)

-- a value that stands there already changes nothing
pub upd_own {ℓ} : {A : Type ℓ} (f : ℕ → A) (k : ℕ) (a : A) → f k ≡ a → (x : ℕ) → f x ≡ upd f k a x
upd_own f k a h x = go (same_or x k)
  where
    go : (x ≡ k) ⊎ (x ≡ k → ⊥) → f x ≡ upd f k a x
    go (inl e) = rw (e, upd_at f k a) h
    go (inr e) = rw (upd_else f k a x e)

pub never_falls : (f : ℕ → ℕ) → ((i : ℕ) → f i ≤ f (suc i)) → (k i : ℕ) → f i ≤ f (k + i)
never_falls f grows zero i = rw zero-add (omega arith)
never_falls f grows (suc k) i = rw suc-add (omega (arith, never_falls f grows k i, grows (k + i)))
