-- `mir::questions::partner_fits` meets its contract: the arm of kinds 7 and 8 is the case that asks.
use borrow.Author.Tests.{le-leb, lt-leb}
use lib.ListN.{get_or}
use native.Mathlib.Omega.{arith}
use Rattle.mir.specs.Questions.{partner_fits}
use Rattle.mir.proofs.questions.partner_fits.Goals as goal

pub returns-in-7 : goal.returns-in-7
unfolding partner_fits
returns-in-7 c =
    let k = get_or c.args.rec.now 0 0 in
    simp (le-leb 7 k (omega arith), le-leb k 8 (omega arith))

pub returns-in_default : goal.returns-in_default
unfolding partner_fits
returns-in_default c = simp (lt-leb 7 (get_or c.args.rec.now 0 0) (omega arith))

pub returns-in_default-2 : goal.returns-in_default-2
unfolding partner_fits
returns-in_default-2 c =
    let k = get_or c.args.rec.now 0 0 in
    simp (le-leb 7 k (omega arith), lt-leb k 8 (omega arith))
