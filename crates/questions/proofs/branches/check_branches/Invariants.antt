-- `questions::branches::check_branches` meets its contract: no record before a round is refused, and the first branch that is left decides.
-- By the laws of a walk that stops at the first refusal; what was collected and not struck has no Label.
use Prim.Native.Nat.{◌-◌}
use Rattle.mir.specs.Questions.{branch_by}
use Rattle.mir.specs.Records.{records}
use Rattle.mir.proofs.Folds.{Unrefused}
use Rattle.questions.proofs.branches.check_branches.Given as goal

abbrev pub invariant-loop-from : goal.invariant-loop-from
invariant-loop-from l = Unrefused (branch_by l.list) (records l.list) l.from

abbrev pub decreases-loop-from : goal.decreases-loop-from
decreases-loop-from l = l.n - l.from
