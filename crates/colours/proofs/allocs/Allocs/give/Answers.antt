-- `colours::allocs::Allocs::give` meets its contract: the branch's test picks the case of the definition.
use mathlib.Core.Path.{refl, ◌∙◌}
use borrow.Author.Tests.{lt-ltb, ne_eqb}
use Rattle.colours.specs.Colours.{nothing}
use Rattle.colours.proofs.Colours.{stands_told}
use Rattle.colours.proofs.Steps.{stands_loc}
use Rattle.colours.proofs.allocs.Allocs.give.Goals as goal

pub returns-then-w-lt256 : goal.returns-then-w-lt256
returns-then-w-lt256 c n i allocs below s =
    let some = ne_eqb c.args.l nothing c.requires.is_location in
    rw (lt-ltb _ _ c.if-w-lt256.true)
    (stands_told (rw some at (stands_loc s c.args.w (below c.if-w-lt256.true) c.args.l (λ j. c.with_bit-self.ensures j ∙ rw some refl))) refl refl refl refl)
