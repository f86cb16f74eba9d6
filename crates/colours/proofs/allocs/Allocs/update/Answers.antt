-- `colours::allocs::Allocs::update` meets its contract: by the action.
-- The arm for the rest by what holds at each of their tags.
use mathlib.Core.List.{[], ◌∷◌}
use Rattle.passes.specs.Color.{update_allocs}
use borrow.Enum.Refused.{opened}
use Rattle.theorems.proofs.Actions.{in_arm}
use Rattle.colours.specs.Colours.{Stands}
use Rattle.colours.proofs.allocs.Allocs.update.Goals as goal

pub returns-in-Save : goal.returns-in-Save
returns-in-Save c n i allocs s = rw c.in-Save.is (c.save.ensures n i allocs s)

pub returns-in-SaveComplex : goal.returns-in-SaveComplex
returns-in-SaveComplex c n i allocs s = rw c.in-SaveComplex.is (c.save_complex.ensures n i allocs s)

pub returns-in-Clear : goal.returns-in-Clear
returns-in-Clear c n i allocs s = rw c.in-Clear.is (rw s.count at (c.reset.ensures i))

pub returns-in_default : goal.returns-in_default
returns-in_default c n i allocs s =
    in_arm (λ k. Stands n i c.args.self.now (update_allocs k c.args.l c.args.x c.args.y allocs))
    (0 ∷ 1 ∷ 3 ∷ 5 ∷ 7 ∷ []) (s, (s, (s, (s, (s, tt))))) c.args.action (opened c.in_default.in_default-own.keys4)
