-- `questions::branches::find_room` meets its contract: the first place that is not taken, or all eight are.
-- By the places passed.
use Prim.Native.Nat.{ℕ, ◌+◌, ◌≤◌, ◌<◌}
use Rattle.questions.specs.Table.{Taken}
use Rattle.questions.proofs.branches.find_room.Given as goal

abbrev pub invariant-loop-k : goal.invariant-loop-k
invariant-loop-k l = (l.k ≤ 8) × ((j : ℕ) → j < l.k → Taken l.table (l.first + j))
