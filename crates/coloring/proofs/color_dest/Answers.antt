-- `coloring::color_dest` meets its contract: by what the choice comes to; an empty pool is ruled out by what is required.
use mathlib.Core.Path.{refl, sym, subst, ◌∙◌}
use native.Mathlib.Omega.{arith}
use borrow.Author.Tests.{lt-ltb, le-ltb}
use Rattle.theorems.proofs.Choice.{choose_found, choose_free}
use Rattle.colours.specs.Colours.{held_in}
use Rattle.coloring.specs.Coloring.{slices_in, Picks}
use Rattle.coloring.proofs.Dests.{standing, step_named, step_found, step_free}
use Rattle.coloring.proofs.color_dest.Goals as goal

pub returns-then-w-ge256 : goal.returns-then-w-ge256
returns-then-w-ge256 c =
    rw (step_named c.args.allocs.now.count c.args.i c.args.next c.args.w (held_in c.args.want) (slices_in c.args.allocs.now c.args.colours.now c.args.ends.now) (le-ltb _ _ c.if-w-ge256.true))
    (record { slices = record { allocs = standing c.requires.masked; colours = refl; ends = refl }; needed = rw (le-ltb _ _ c.if-w-ge256.true) refl })

-- ---- a colour that is found, and one that is free: the code's choice is the definition's

pub assign-requires : goal.assign-requires
assign-requires c =
    let found = sym (c.choose.ensures _ c.args.i _ (standing c.requires.masked)) ∙ c.in-Found.is in
    omega (arith, (choose_found c.args.allocs.now.count c.args.i _ (held_in c.args.want) _ found).0, c.requires.masked.few)

pub assign-requires-in-Free : goal.assign-requires-in-Free
assign-requires-in-Free c =
    let free = sym (c.choose.ensures _ c.args.i _ (standing c.requires.masked)) ∙ c.in-Free.is in
    omega (arith, (choose_free c.args.allocs.now.count c.args.i _ (held_in c.args.want) _ free).0, c.requires.masked.few)

pub returns-in-Found : goal.returns-in-Found
returns-in-Found c =
    let s = standing c.requires.masked in
    let found = sym (c.choose.ensures _ c.args.i _ s) ∙ c.in-Found.is in
    rw (step_found c.args.allocs.now.count c.args.i c.args.next c.args.w (held_in c.args.want) (slices_in c.args.allocs.now c.args.colours.now c.args.ends.now) (lt-ltb _ _ c.if-w-ge256.false) found)
    (let inside = (choose_found c.args.allocs.now.count c.args.i _ (held_in c.args.want) _ found).0 in
    record {
      slices = record { allocs = c.assign.ensures.stands c.args.allocs.now.count _ inside s; colours = refl; ends = refl };
      needed = rw (lt-ltb _ _ c.if-w-ge256.false) (c.assign.ensures.needed c.args.allocs.now.count _ inside s);
    })

pub returns-in-Free : goal.returns-in-Free
returns-in-Free c =
    let s = standing c.requires.masked in
    let free = sym (c.choose.ensures _ c.args.i _ s) ∙ c.in-Free.is in
    rw (step_free c.args.allocs.now.count c.args.i c.args.next c.args.w (held_in c.args.want) (slices_in c.args.allocs.now c.args.colours.now c.args.ends.now) (lt-ltb _ _ c.if-w-ge256.false) free)
    (let inside = (choose_free c.args.allocs.now.count c.args.i _ (held_in c.args.want) _ free).0 in
    record {
      slices = record { allocs = c.assign-in-Free.ensures.stands c.args.allocs.now.count _ inside s; colours = refl; ends = refl };
      needed = rw (lt-ltb _ _ c.if-w-ge256.false) (c.assign-in-Free.ensures.needed c.args.allocs.now.count _ inside s);
    })

pub returns-in-Empty : goal.returns-in-Empty
returns-in-Empty c =
    let empty = sym (c.choose.ensures _ c.args.i _ (standing c.requires.masked)) ∙ c.in-Empty.is in
    absurd (subst Picks empty (c.requires.ready_for (lt-ltb _ _ c.if-w-ge256.false)).0)
