-- `coloring::color_dests` meets its contract: x takes its colour before y.
use mathlib.Core.Path.{refl, ◌∙◌}
use native.Mathlib.Omega.{arith}
use Rattle.mir.proofs.Renaming.{one_le}
use Rattle.mir.proofs.Shapes.{dests_told}
use Rattle.colours.specs.Colours.{held_in}
use Rattle.coloring.specs.Coloring.{dest_steps, most_needed}
use Rattle.coloring.proofs.Dests.{standing, lent_are, lent_masked, ready_as}
use Rattle.coloring.proofs.color_dests.Goals as goal

pub color_dest-requires : goal.color_dest-requires
color_dest-requires c =
    record {
      masked = c.requires.masked;
      colours_room = omega (arith, c.requires.colours_room);
      ends_room = omega (arith, c.requires.ends_room);
      ready_for = (rw (dests_told c.dests_of.ensures c.in-One.is) at c.requires.ready).0;
    }

pub color_dest-needed-requires : goal.color_dest-needed-requires
color_dest-needed-requires c =
    record {
      masked = c.requires.masked;
      colours_room = omega (arith, c.requires.colours_room);
      ends_room = omega (arith, c.requires.ends_room);
      ready_for = (rw (dests_told c.dests_of.ensures c.in-Two.is) at c.requires.ready).0;
    }

-- ---- where x has its colour

pub overflow_add-after : goal.overflow_add-after
overflow_add-after c =
    omega (arith, c, one_le c.in-Two.x, c.count_static.ensures)

pub color_dest-requires-in-Two : goal.color_dest-requires-in-Two
color_dest-requires-in-Two c =
    let r = rw (dests_told c.dests_of.ensures c.in-Two.is) at c.requires.ready in
    let x = c.color_dest-needed in
    let w = one_le c.in-Two.x in
    let e = c.count_static.ensures in
    rw x.ensures.slices.allocs.count
    record {
      masked = lent_masked x.ensures.slices;
      colours_room = omega (arith, c.requires.colours_room, w, e, x.auto.colours);
      ends_room = omega (arith, c.requires.ends_room, w, e, x.auto.ends);
      ready_for = ready_as c.args.allocs.now.count c.args.i c.args.next c.in-Two.y (held_in c.args.hy) (lent_are x.ensures.slices) e r.1.0;
    }

pub returns-in-Nothing : goal.returns-in-Nothing
unfolding dest_steps most_needed
returns-in-Nothing c =
    rw (dests_told c.dests_of.ensures c.in-Nothing.is)
    (record { slices = record { allocs = standing c.requires.masked; colours = refl; ends = refl }; most = refl })

pub returns-in-One : goal.returns-in-One
unfolding dest_steps most_needed
returns-in-One c =
    rw (dests_told c.dests_of.ensures c.in-One.is)
    (record { slices = c.color_dest.ensures.slices; most = c.color_dest.ensures.needed ∙ omega arith })

pub returns-in-Two : goal.returns-in-Two
unfolding dest_steps most_needed
returns-in-Two c =
    let x = c.color_dest-needed.ensures in
    let nx = rw (← (lent_are x.slices)) at x.needed in
    let y = rw x.slices.allocs.count at c.color_dest-in-Two.ensures in
    rw (dests_told c.dests_of.ensures c.in-Two.is, ← (lent_are x.slices), ← c.count_static.ensures)
    (record { slices = y.slices; most = c.max.ensures ∙ omega (arith, nx, y.needed) })
