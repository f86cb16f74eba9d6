-- `walks::contract::recolour` meets its contract: the words before the index are in colours, all else as it was.
-- By one word more.
use mathlib.Core.Path.{◌∙◌}
use native.Mathlib.Omega.{arith}
use Rattle.colours.proofs.Mapped.{mapped_zero, mapped_more, mapped_all}
use Rattle.passes.specs.Color.{source_word}
use Rattle.walks.proofs.contract.recolour.Goals as goal

pub loop-w-init : goal.loop-w-init
loop-w-init c = mapped_zero (source_word c.args.renaming.now.regs c.args.colours.now) _

pub loop-w-preserved : goal.loop-w-preserved
loop-w-preserved c = rw c.deallocate.ensures (mapped_more (source_word c.args.renaming.now.regs c.args.colours.now) c.args.words.now c.loop-w.w-index 0 c.loop-w-test.true c.loop-w.invariant)

pub returns : goal.returns
returns c = c.loop-w.invariant ∙ mapped_all (source_word c.args.renaming.now.regs c.args.colours.now) c.args.words.now c.loop-w.w-index (omega arith)
