-- `mir::questions::check_shape` meets its contract: the questions are put in their order, and the first no gives its number.
use lib.ListN.{get_or}
use native.Mathlib.Omega.{arith}
use mathlib.Core.Path.{ap}
use mathlib.Core.Bool.{not}
use borrow.Author.Tests.{le-leb, lt-leb}
use Rattle.mir.specs.Questions.{shape_no, known_kind}
use Rattle.mir.proofs.Folds.{answered_no, answered_yes}
use Rattle.mir.proofs.questions.check_shape.Goals as goal

pub returns-then-rec-gt20 : goal.returns-then-rec-gt20
unfolding shape_no known_kind
returns-then-rec-gt20 c = simp (lt-leb (get_or c.args.rec.now 0 0) 20 (omega arith))

pub returns-then-not-fields_fit : goal.returns-then-not-fields_fit
unfolding shape_no known_kind
returns-then-not-fields_fit c =
    simp (le-leb (get_or c.args.rec.now 0 0) 20 (omega arith), answered_no c.fields_fit.ensures (ap not c.if-not-fields_fit.true))

pub returns-then-not-gens_fit : goal.returns-then-not-gens_fit
unfolding shape_no known_kind
returns-then-not-gens_fit c =
    simp (
      le-leb (get_or c.args.rec.now 0 0) 20 (omega arith),
      answered_yes c.fields_fit.ensures (ap not c.if-not-fields_fit.false),
      answered_no c.gens_fit.ensures (ap not c.if-not-gens_fit.true),
    )

pub returns : goal.returns
unfolding shape_no known_kind
returns c =
    simp (
      le-leb (get_or c.args.rec.now 0 0) 20 (omega arith),
      answered_yes c.fields_fit.ensures (ap not c.if-not-fields_fit.false),
      answered_yes c.gens_fit.ensures (ap not c.if-not-gens_fit.false),
    )
