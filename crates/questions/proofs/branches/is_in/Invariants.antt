-- `questions::branches::is_in` meets its contract: the number stands at a place of its slot, or at none of the eight.
-- By the places passed.
use Prim.Native.Nat.{ℕ, ◌+◌, ◌≤◌, ◌<◌}
use mathlib.Core.Path.{◌≡◌}
use lib.ListN.{get_or}
use Rattle.questions.proofs.branches.is_in.Given as goal

abbrev pub invariant-loop-k : goal.invariant-loop-k
invariant-loop-k l = (l.k ≤ 8) × ((j : ℕ) → j < l.k → get_or l.table (l.first + j) 0 ≡ l.number → ⊥)
