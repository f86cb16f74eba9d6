-- `colours::allocs::Allocs::choose` meets its contract: by whether the destination is wanted with a location, and whether a colour holds it.
use mathlib.Core.Path.{sym, ◌∙◌}
use native.Mathlib.Omega.{arith}
use lib.ListN.{take}
use lib.Seq.{length-take-le}
use borrow.Author.Tests.{eq-eqb}
use Rattle.std.proofs.lemmas.List.Quantifiers.{position-Some}
use Rattle.passes.specs.Color as color
use Rattle.colours.proofs.Choices.{choose_held, choose_unheld}
use Rattle.colours.proofs.allocs.Allocs.choose.Goals as goal

pub returns-then-want-eq-NOTHING : goal.returns-then-want-eq-NOTHING
unfolding color.choose
returns-then-want-eq-NOTHING c n i allocs s = rw (eq-eqb _ _ c.if-want-eq-NOTHING.true) (c.allocate.ensures n i allocs s.masked)

pub overflow_cast-result : goal.overflow_cast-result
overflow_cast-result c =
    let below = (position-Some _ (take c.args.self.now.count c.args.self.now.locs) c.in-Some.c 0 (sym c.holder.ensures ∙ c.in-Some.is)).0 in
    omega (arith, below, length-take-le c.args.self.now.count c.args.self.now.locs (omega (arith, c.args.self.now.few)), c.args.self.now.few)

pub returns-in-Some : goal.returns-in-Some
returns-in-Some c n i allocs s =
    choose_held s c.args.want c.if-want-eq-NOTHING.false (omega (arith, s.masked.few)) (rw s.count at (sym c.holder.ensures ∙ c.in-Some.is))

pub returns-in-None : goal.returns-in-None
returns-in-None c n i allocs s =
    c.allocate-in-None.ensures n i allocs s.masked
    ∙ choose_unheld s c.args.want c.if-want-eq-NOTHING.false (omega (arith, s.masked.few)) (rw s.count at (sym c.holder.ensures ∙ c.in-None.is))
