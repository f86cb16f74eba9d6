-- `colours::allocs::Allocs::clear_at` meets its contract: the colour and its bit change where the colour has the word.
use mathlib.Core.Path.{refl}
use Rattle.colours.proofs.Colours.{stands_told}
use Rattle.colours.proofs.Steps.{cleared, not_cleared}
use Rattle.colours.proofs.allocs.Allocs.clear_at.Goals as goal

pub returns-then-self-c : goal.returns-then-self-c
returns-then-self-c c n i allocs inside s =
    stands_told (cleared s c.args.c inside c.args.l c.requires.is_location c.if-self-c.true c.with_bit-self.ensures) refl refl refl refl

pub returns-else-self-c : goal.returns-else-self-c
returns-else-self-c c n i allocs inside s =
    not_cleared s c.args.c inside c.args.l c.requires.is_location c.if-self-c.false
