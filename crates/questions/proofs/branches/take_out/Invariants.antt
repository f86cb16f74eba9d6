-- `questions::branches::take_out` meets its contract: the number stands at none of the places passed, and other numbers are in as before.
-- By the law of a store that takes a number out.
use Prim.Native.Nat.{ℕ, ◌+◌, ◌*◌, ◌≤◌, ◌<◌}
use mathlib.Core.List.{List}
use mathlib.Core.Path.{◌≡◌}
use lib.ListN.{length, get_or}
use Rattle.questions.specs.Table.{slot_of, holds}
use Rattle.questions.proofs.branches.take_out.Given as goal

-- what the loop keeps before place k of the slot
pub record Taking (number : ℕ) (table₀ table : List ℕ) (k : ℕ) : Type 0 where
  pub same_length : length table ≡ length table₀
  pub gone : (j : ℕ) → j < k → get_or table (slot_of number * 8 + j) 0 ≡ number → ⊥
  pub others : (t : ℕ) → (number ≡ t → ⊥) → holds table t ≡ holds table₀ t

abbrev pub invariant-loop-k : goal.invariant-loop-k
invariant-loop-k l = (l.k ≤ 8) × Taking l.number l.initial.table l.table l.k
