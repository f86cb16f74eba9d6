-- `walks::contract::unmark` meets its contract: the ends before the index have no mark, all else as it was.
-- By one end more.
use Prim.Native.Nat.{◌%◌}
use mathlib.Core.Path.{◌∙◌}
use native.Mathlib.Omega.{arith}
use Rattle.colours.proofs.Mapped.{mapped_zero, mapped_more, mapped_all}
use Rattle.walks.proofs.contract.unmark.Goals as goal

pub loop-end-init : goal.loop-end-init
loop-end-init c = mapped_zero (λ end. end % 65536) _

pub loop-end-preserved : goal.loop-end-preserved
loop-end-preserved c = mapped_more (λ end. end % 65536) c.args.ends.now c.loop-end.end-index 0 c.loop-end-test.true c.loop-end.invariant

pub returns : goal.returns
returns c = c.loop-end.invariant ∙ mapped_all (λ end. end % 65536) c.args.ends.now c.loop-end.end-index (omega arith)
