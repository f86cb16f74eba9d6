-- `mir::questions::check_all_named` meets its contract: each word passed has a static.
-- By the laws of a walk that stops at the first word for which a test fails.
use mathlib.Core.Path.{refl}
use Rattle.mir.specs.declared.refusal.Question.TheVariants.{Named}
use Rattle.mir.proofs.Asked.{numbered, asked_ok, asked_err, one_yes, one_no}
use Rattle.mir.proofs.Folds.{holds_none, holds_more, holds_stops, holds_ends, all_each_word}
use Rattle.mir.proofs.questions.check_all_named.Goals as goal

pub loop-w-init : goal.loop-w-init
loop-w-init c = holds_none

pub returns-in_err-check_named : goal.returns-in_err-check_named
returns-in_err-check_named c =
    let no = asked_err c.from_residual.result c.in_err-check_named.was c.check_named.ensures c.from_residual.ensures.1 in
    let n = one_no {number = 9} _ no.0 no.1 in
    rw (all_each_word, ← (holds_stops c.loop-w.invariant c.loop-w-test.true n.0)) n.1

pub loop-w-preserved : goal.loop-w-preserved
loop-w-preserved c =
    holds_more c.loop-w.invariant c.loop-w-test.true (one_yes {number = 9} _ (numbered Named) (asked_ok c.in_ok-check_named.was c.check_named.ensures))

pub returns : goal.returns
returns c = rw (all_each_word, ← (holds_ends c.loop-w.invariant c.loop-w-test.false)) refl
