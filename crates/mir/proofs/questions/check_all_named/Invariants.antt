-- `mir::questions::check_all_named` meets its contract.
-- By the laws of a walk that stops at the first word for which a test fails.
use lib.ListN.{length, get_or}
use Rattle.mir.specs.Questions.{named}
use Rattle.mir.proofs.Folds.{Holds}
use Rattle.mir.proofs.questions.check_all_named.Given as goal

abbrev pub invariant-loop-w : goal.invariant-loop-w
invariant-loop-w l = Holds (λ k. named l.regs (get_or l.words k 0)) (length l.words) l.w-index
