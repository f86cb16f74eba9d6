-- `lives::consume_sources` meets its contract: the sources passed have been read.
-- By one source more.
use mathlib.Core.Path.{◌≡◌}
use lib.ListN.{take}
use Rattle.passes.specs.Create.{consumed}
use Rattle.lives.proofs.consume_sources.Given as goal

abbrev pub invariant-loop-w : goal.invariant-loop-w
invariant-loop-w l = l.ends ≡ consumed l.renaming.regs l.i (take l.w-index l.w-items) l.initial.ends
