-- `mir::questions::words_fit` meets its contract: what was kept is whether each place passed has a word that fits.
-- By the recursion of `all_below`.
use mathlib.Core.Path.{◌≡◌, refl}
use native.Mathlib.Numerals.{add-one}
use native.Mathlib.Omega.{arith}
use Rattle.mir.specs.Folds.{all_below}
use Rattle.mir.specs.Questions.{words_fit}
use Rattle.mir.proofs.questions.words_fit.Goals as goal

pub loop-p-preserved : goal.loop-p-preserved
unfolding all_below
loop-p-preserved c = rw (add-one, c.loop-p.invariant) refl

pub returns : goal.returns
unfolding words_fit
returns c =
    let e : c.loop-p.p ≡ 8 = omega arith in
    rw e at c.loop-p.invariant

pub loop-p-init : goal.loop-p-init
unfolding all_below
loop-p-init c = refl
