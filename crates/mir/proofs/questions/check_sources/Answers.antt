-- `mir::questions::check_sources` meets its contract: question 9 is asked of every source, and then 15.
use mathlib.Core.Bool.{not}
use mathlib.Core.Path.{refl, ap}
use Rattle.mir.specs.declared.refusal.Question.TheVariants.{Named}
use Rattle.mir.specs.Questions.{sources_named, sources_since}
use Rattle.mir.proofs.Asked.{numbered, asked_ok, asked_err, one_yes, one_no}
use Rattle.mir.proofs.Folds.{answered_no, answered_yes}
use Rattle.mir.proofs.questions.check_sources.Goals as goal

pub returns-in_err-check_all_named : goal.returns-in_err-check_all_named
unfolding sources_named sources_since
returns-in_err-check_all_named c =
    let no = asked_err c.from_residual.result c.in_err-check_all_named.was c.check_all_named.ensures c.from_residual.ensures.1 in
    let n = one_no {number = 9} _ no.0 no.1 in
    rw (← c.sources_of-words.ensures, n.0) n.1

pub returns-then-not-all_since : goal.returns-then-not-all_since
unfolding sources_named sources_since
returns-then-not-all_since c =
    rw (
      ← c.sources_of-words.ensures,
      one_yes {number = 9} _ (numbered Named) (asked_ok c.in_ok-check_all_named.was c.check_all_named.ensures),
      answered_no c.all_since.ensures (ap not c.if-not-all_since.true),
    ) refl

pub returns : goal.returns
unfolding sources_named sources_since
returns c =
    rw (
      ← c.sources_of-words.ensures,
      one_yes {number = 9} _ (numbered Named) (asked_ok c.in_ok-check_all_named.was c.check_all_named.ensures),
      answered_yes c.all_since.ensures (ap not c.if-not-all_since.false),
    ) refl
