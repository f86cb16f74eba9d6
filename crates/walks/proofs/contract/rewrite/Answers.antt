-- `walks::contract::rewrite` meets its contract: the destinations are written, and after them the sources.
use mathlib.Core.Path.{◌≡◌}
use native.Mathlib.Omega.{arith}
use lib.ListN.{length}
use Rattle.mir.proofs.Shapes.{room, shape_here}
use Rattle.walks.proofs.contract.Record.{sources_written}
use Rattle.walks.proofs.contract.rewrite.Goals as goal

pub overflow_add-from : goal.overflow_add-from
overflow_add-from c = omega (arith, room _ c.shape_of-s.ensures)

pub overflow_add-from-2 : goal.overflow_add-from-2
overflow_add-from-2 c = omega (arith, room _ c.shape_of-s.ensures)

pub offset_bounds-out-from : goal.offset_bounds-out-from
offset_bounds-out-from c = omega (arith, room _ c.shape_of-s.ensures)

pub slice_bounds-recolour-end : goal.slice_bounds-recolour-end
slice_bounds-recolour-end c = omega (arith, room _ c.shape_of-s.ensures, c.rewrite_dests.auto.out, c.requires.out_room)

pub returns : goal.returns
returns c =
    let r = c.args.renaming.now in
    let len : length c.args.rec.now ≡ 8 = omega arith in
    let same = shape_here c.args.rec.now c.shape_of-s.ensures c.requires.kind_is in
    sources_written c.args.rec.now len r.statics c.args.colours.now c.shape_of-s.result same c.rewrite_dests.new.out c.rewrite_dests.ensures
    r.regs c.recolour.new.words _ (omega arith) c.recolour.ensures
