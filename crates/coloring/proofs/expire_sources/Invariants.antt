-- `coloring::expire_sources` meets its contract: the sources passed have become free, if their lives end here.
-- By one source more.
use mathlib.Core.List.{map}
use lib.ListN.{take}
use Rattle.passes.specs.Color.{source_word}
use Rattle.colours.specs.Masks.{Expired}
use Rattle.coloring.proofs.expire_sources.Given as goal

abbrev pub invariant-loop-w : goal.invariant-loop-w
invariant-loop-w l = Expired l.initial.allocs (map (source_word l.renaming.regs l.colours) (take l.w-index l.w-items)) l.i l.allocs
