-- `mir::questions::pairs_fit` meets its contract: each pair passed is of a space.
-- By the laws of a walk that stops at the first number for which a test fails.
use Rattle.mir.specs.Questions.{space_fits}
use Rattle.mir.proofs.Folds.{Holds}
use Rattle.mir.proofs.questions.pairs_fit.Given as goal

abbrev pub invariant-loop-j : goal.invariant-loop-j
invariant-loop-j l = Holds (space_fits l.table l.first) l.count l.j
