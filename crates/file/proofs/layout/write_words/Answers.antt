-- `file::layout::write_words` meets its contract: the slice starts with the bytes of the words passed.
-- By the law of one word more; the loop starts from the slice that the first word is in.
use mathlib.Core.Path.{◌∙◌}
use native.Mathlib.Omega.{arith}
use lib.Seq.{take_all}
use Rattle.file.proofs.layout.Bytes.{bytes_next, over_first, first_over}
use borrow.Author.Rules.{rules}
use Rattle.file.proofs.layout.write_words.Goals as goal

pub loop-j-init : goal.loop-j-init
loop-j-init c =
    (search rules, first_over _ c.args.out.now c.put_word.ensures (omega arith))

pub loop-j-preserved : goal.loop-j-preserved
loop-j-preserved c =
    (search rules, c.put_word-in-loop-j.ensures ∙ bytes_next _ _ _ _ c.loop-j.invariant.1 c.loop-j-test.true (omega (arith, c.put_word.auto.out)))

pub returns : goal.returns
returns c =
    let words = c.args.words.now in
    (rw (take_all c.loop-j.j words (omega arith)) at c.loop-j.invariant.1) ∙ over_first _ _ c.put_word.ensures (omega arith) words
