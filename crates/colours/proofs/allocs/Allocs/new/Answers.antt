-- `colours::allocs::Allocs::new` meets its contract: both arrays are blank, and each of the n colours is free.
use mathlib.Core.Path.{refl}
use Rattle.colours.proofs.Colours.{stands_told}
use Rattle.colours.proofs.Steps.{stands_blank}
use Rattle.colours.proofs.allocs.Allocs.new.Goals as goal

pub returns : goal.returns
returns c i = stands_told (stands_blank c.requires i c.first_bits.ensures) refl refl refl refl
