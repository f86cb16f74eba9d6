-- `mir::shape::sources_of` meets its contract: the words stand where the shape says.
-- Every shape lies in the eight words.
use Prim.Native.Nat.{◌+◌, ◌-◌}
use mathlib.Core.Path.{◌≡◌, refl}
use native.Mathlib.Omega.{arith}
use Rattle.mir.specs.Shapes.{sources}
use Rattle.mir.proofs.Shapes.{room}
use Rattle.mir.proofs.shape.sources_of.Goals as goal

pub returns : goal.returns
unfolding sources
returns c =
    let s = c.shape_of-s.result in
    let e : s.regs + s.dsts + s.srcs - (s.regs + s.dsts) ≡ s.srcs = omega arith in
    rw (e, c.shape_of-s.ensures, c.requires) refl

pub overflow_add-from : goal.overflow_add-from
overflow_add-from c = omega (arith, room _ c.shape_of-s.ensures)

pub overflow_add-result : goal.overflow_add-result
overflow_add-result c = omega (arith, room _ c.shape_of-s.ensures)

pub offset_bounds-rec-from : goal.offset_bounds-rec-from
offset_bounds-rec-from c = omega (arith, room _ c.shape_of-s.ensures)

pub slice_bounds-result-end : goal.slice_bounds-result-end
slice_bounds-result-end c = omega (arith, room _ c.shape_of-s.ensures)
