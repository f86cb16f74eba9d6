-- `colours::allocs::Allocs::needed` meets its contract: the colours that are needed and those that are free are all.
use native.Mathlib.Omega.{arith}
use Rattle.colours.proofs.Needed.{needed_or_free}
use Rattle.colours.proofs.allocs.Allocs.needed.Goals as goal

pub returns : goal.returns
returns c n i allocs s = omega (arith, needed_or_free s.masked (omega arith), s.count)
