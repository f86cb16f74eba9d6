-- `mir::questions::words_fit` meets its contract: what was kept is whether each place passed has a word that fits.
-- By the recursion of `all_below`.
use mathlib.Core.Path.{◌≡◌}
use Rattle.mir.specs.Folds.{all_below}
use Rattle.mir.specs.Questions.{word_fits}
use Rattle.mir.proofs.questions.words_fit.Given as goal

abbrev pub invariant-loop-p : goal.invariant-loop-p
invariant-loop-p l = l.fit ≡ all_below l.p (word_fits l.rec l.most)
