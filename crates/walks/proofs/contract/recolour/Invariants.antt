-- `walks::contract::recolour` meets its contract: the words before the index are in colours, all else as it was.
-- By one word more.
use mathlib.Core.Path.{◌≡◌}
use Rattle.colours.proofs.Mapped.{mapped_to}
use Rattle.passes.specs.Color.{source_word}
use Rattle.walks.proofs.contract.recolour.Given as goal

abbrev pub invariant-loop-w : goal.invariant-loop-w
invariant-loop-w l = l.words ≡ mapped_to (source_word l.renaming.regs l.colours) l.initial.words l.w-index
