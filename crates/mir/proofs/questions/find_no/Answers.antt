-- `mir::questions::find_no` meets its contract: the questions are put in their order, and the first no gives its number.
use mathlib.Core.Bool.{not}
use mathlib.Core.Path.{ap}
use Rattle.mir.proofs.Asked.{asked_ok, asked_err}
use Rattle.mir.proofs.Folds.{answered_no, answered_yes}
use Rattle.mir.proofs.Passing.{shape_passes, shape_stops, then_last}
use Rattle.mir.proofs.questions.find_no.Goals as goal

pub returns-in_err-check_shape : goal.returns-in_err-check_shape
returns-in_err-check_shape c =
    let no = asked_err c.from_residual.result c.in_err-check_shape.was c.check_shape.ensures c.from_residual.ensures.1 in
    shape_stops _ _ _ _ _ _ no.0 no.1

pub returns-then-not-partner_fits : goal.returns-then-not-partner_fits
returns-then-not-partner_fits c =
    let passes = shape_passes _ _ _ (asked_ok c.in_ok-check_shape.was c.check_shape.ensures) in
    rw (then_last _ _ _ _ _ passes, answered_no c.partner_fits.ensures (ap not c.if-not-partner_fits.true))

pub returns : goal.returns
returns c =
    let passes = shape_passes _ _ _ (asked_ok c.in_ok-check_shape.was c.check_shape.ensures) in
    rw (then_last _ _ _ _ _ passes, answered_yes c.partner_fits.ensures (ap not c.if-not-partner_fits.false))
    c.check_sources.ensures
