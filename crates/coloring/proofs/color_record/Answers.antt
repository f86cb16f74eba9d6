-- `coloring::color_record` meets its contract: sources, what the destinations are wanted with, destinations, action.
use mathlib.Core.Path.{ap}
use native.Mathlib.Omega.{arith}
use Rattle.mir.proofs.Shapes.{is_complex, shape_here}
use Rattle.passes.specs.Color.{source_word}
use Rattle.coloring.specs.Coloring.{record_step}
use Rattle.coloring.proofs.Dests.{standing}
use Rattle.coloring.proofs.Sources.{partner_below, used_coloured}
use Rattle.coloring.proofs.color_record.Goals as goal

pub want_x-hx-requires : goal.want_x-hx-requires
want_x-hx-requires c =
    let f = source_word c.args.renaming.now.regs c.args.colours.now in
    let used = used_coloured c.args.rec.now (omega arith) f c.args.allocs.now.count 0 c.requires.coloured in
    let same = shape_here c.args.rec.now c.shape_of-s.ensures c.requires.kind_is in
    rw (same, c.loc_of-l.ensures, c.source_at-x.ensures)
    (record { space_lt_any = c.requires.space_bound; x_lt_max_regs = λ u l. omega (arith, used u l, c.requires.masked.few) })

pub want_y-hy-requires : goal.want_y-hy-requires
want_y-hy-requires c =
    let same = shape_here c.args.rec.now c.shape_of-s.ensures c.requires.kind_is in
    rw (same, c.loc_of-l.ensures)
    (record { space_lt_any = c.requires.space_bound; index_lt_any = λ e. partner_below c.args.rec.now (ap is_complex e) c.requires.partner_fits })

-- what the destinations are wanted with is what the definition says
pub color_dests-most-requires : goal.color_dests-most-requires
color_dests-most-requires c =
    let same = shape_here c.args.rec.now c.shape_of-s.ensures c.requires.kind_is in
    let x = c.want_x-hx.ensures c.args.allocs.now.count c.args.i _ (standing c.requires.masked) in
    record {
      kind_is = c.requires.kind_is;
      masked = c.requires.masked;
      colours_room = c.requires.colours_room;
      ends_room = c.requires.ends_room;
      ready = rw (x, c.want_y-hy.ensures, same, c.loc_of-l.ensures, c.source_at-x.ensures) c.requires.ready;
    }

pub update-requires : goal.update-requires
update-requires c =
    let f = source_word c.args.renaming.now.regs c.args.colours.now in
    let same = shape_here c.args.rec.now c.shape_of-s.ensures c.requires.kind_is in
    rw (c.color_dests-most.ensures.slices.allocs.count, same, c.loc_of-l.ensures, c.source_at-x.ensures, c.source_at-y.ensures)
    (record {
      space_lt_any = c.requires.space_bound;
      index_lt_any = λ e. partner_below c.args.rec.now (ap is_complex e) c.requires.partner_fits;
      x_lt_count = used_coloured c.args.rec.now (omega arith) f c.args.allocs.now.count 0 c.requires.coloured;
      y_lt_count = used_coloured c.args.rec.now (omega arith) f c.args.allocs.now.count 1 c.requires.coloured;
    })

pub returns : goal.returns
unfolding record_step
returns c =
    let same = shape_here c.args.rec.now c.shape_of-s.ensures c.requires.kind_is in
    let x = c.want_x-hx.ensures c.args.allocs.now.count c.args.i _ (standing c.requires.masked) in
    let given = rw (x, c.want_y-hy.ensures, same, c.loc_of-l.ensures, c.source_at-x.ensures) at c.color_dests-most.ensures in
    let updated = c.update.ensures _ c.args.i _ given.slices.allocs in
    let done = rw (same, c.loc_of-l.ensures, c.source_at-x.ensures, c.source_at-y.ensures) at updated in
    record { slices = record { allocs = done; colours = given.slices.colours; ends = given.slices.ends }; most = given.most }
