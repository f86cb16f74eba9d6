-- `mir::questions::pairs_fit` meets its contract: each pair passed is of a space.
-- By the laws of a walk that stops at the first number for which a test fails.
use borrow.Author.Tests.{le-leb, lt-leb}
use Rattle.mir.specs.Questions.{pairs_fit}
use Rattle.mir.proofs.Folds.{holds_none, holds_more, holds_stops, holds_ends}
use Rattle.mir.proofs.questions.pairs_fit.Goals as goal

pub returns-then-table-from : goal.returns-then-table-from
unfolding pairs_fit
returns-then-table-from c = simp (lt-leb _ _ c.if-table-from.true)

pub returns-then-table-from-gt2 : goal.returns-then-table-from-gt2
unfolding pairs_fit
returns-then-table-from-gt2 c =
    simp (le-leb _ _ c.if-table-from.false)
    (holds_stops c.loop-j.invariant c.loop-j-test.true (lt-leb _ _ c.if-table-from-gt2.true))

pub loop-j-preserved : goal.loop-j-preserved
loop-j-preserved c =
    holds_more c.loop-j.invariant c.loop-j-test.true (le-leb _ _ c.if-table-from-gt2.false)

pub returns : goal.returns
unfolding pairs_fit
returns c =
    simp (le-leb _ _ c.if-table-from.false) (holds_ends c.loop-j.invariant c.loop-j-test.false)

pub loop-j-init : goal.loop-j-init
loop-j-init c =
    holds_none
