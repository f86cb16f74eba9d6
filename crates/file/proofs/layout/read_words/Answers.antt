-- `file::layout::read_words` meets its contract: the slice starts with the words read.
-- By the law of one word more.
use mathlib.Core.Path.{refl}
use native.Mathlib.Omega.{arith}
use Rattle.file.specs.File.{words_in}
use Rattle.file.proofs.layout.Bytes.{words_next}
use borrow.Author.Rules.{rules}
use Rattle.file.proofs.layout.read_words.Goals as goal

pub loop-j-init : goal.loop-j-init
unfolding words_in
loop-j-init c = (search rules, refl)

pub loop-j-preserved : goal.loop-j-preserved
loop-j-preserved c =
    (search rules, words_next _ _ _ _ c.loop-j.invariant.1 (omega (arith, c)) c.word_at.ensures)
