-- What tells states apart at their end, and lists by what they leave in Ret.
-- By the one place in which the states differ.
use Prim.Native.Nat.{ℕ, ◌<◌, ◌≤◌}
use mathlib.Core.Bool.{false}
use mathlib.Core.List.{List}
use mathlib.Core.Path.{◌≡◌, refl, ap, ◌∙◌}
use native.Mathlib.Omega.{arith}
use lib.Dec.{eqb}
use borrow.Author.Tests.{eq-eqb, ne_eqb}
use Rattle.mir.specs.declared.config.Settings.{Settings}
use Rattle.mir.specs.Records.{flat, fixed_mark}
use Rattle.passes.specs.Instructions.{ret}
use Rattle.passes.specs.Machine.{State, write, store, Word, EndsEqual, RunsEqual}
use Rattle.passes.specs.MachineCases.{digits1, digits2, digits3, digits4, digits5, below, start, returned}

-- two states that differ in one place alone, which has another value v in the first
module _ {Value : Type 0} (s : Settings) (st : State Value) (v : Value) where
  pub named_told : (r : ℕ) → 256 ≤ r → r ≤ 259 → (v ≡ st.reg r → ⊥) → EndsEqual s (write r v st) st → ⊥
  named_told r low high other h =
      let e : v ≡ (write r v st).reg r = rw (eq-eqb r r refl) in
      other (e ∙ h.named r low high)

  cell_told : (p i : ℕ) → (v ≡ st.cell p i → ⊥) → (store p i v st).cell p i ≡ st.cell p i → ⊥
  cell_told p i other h =
      let e : v ≡ (store p i v st).cell p i = rw (eq-eqb p p refl, eq-eqb i i refl) in
      other (e ∙ h)

  pub mem_told : (i : ℕ) → (v ≡ st.cell 1 i → ⊥) → EndsEqual s (store 1 i v st) st → ⊥
  mem_told i other h = cell_told 1 i other (h.mem i)

  pub param_told : (i : ℕ) → (v ≡ st.cell 2 i → ⊥) → EndsEqual s (store 2 i v st) st → ⊥
  param_told i other h = cell_told 2 i other (h.param i)

  pub stack_told : (i : ℕ) → i < fixed_mark s → (v ≡ st.cell 0 i → ⊥) → EndsEqual s (store 0 i v st) st → ⊥
  stack_told i below other h = cell_told 0 i other (h.stack i below)

  -- a Gen register, and a Stack cell at or above the mark, may differ
  pub gen_untold : (r : ℕ) → r < 256 → EndsEqual s (write r v st) st
  gen_untold r gen =
      record {
        named = λ k low high.
            let other : eqb k r ≡ false = ne_eqb k r (λ (e : k ≡ r). omega arith) in
            rw other;
        mem = λ i. refl;
        param = λ i. refl;
        stack = λ i below. refl;
      }

  pub stack_untold : (i : ℕ) → fixed_mark s ≤ i → EndsEqual s (store 0 i v st) st
  stack_untold i beyond =
      record {
        named = λ k low high. refl;
        mem = λ j. refl;
        param = λ j. refl;
        stack = λ j below.
            let other : eqb j i ≡ false = ne_eqb j i (λ (e : j ≡ i). omega arith) in
            rw other;
      }

-- two lists that leave different words in Ret, under one meaning of the operations and from one state, are told apart
pub lists_told : (s : Settings) (a b : List (List ℕ)) → (returned a ≡ returned b → ⊥) → RunsEqual s (flat a) (flat b) → ⊥
unfolding returned
lists_told s a b other h =
    other (ap (λ (w : Word). w.number) ((h digits1 digits2 digits3 digits4 digits5 below (start false)).named ret (omega arith) (omega arith)))
