-- `mir::shape::registers_of` meets its contract: the words stand where the shape says.
-- Every shape lies in the eight words.
use Prim.Native.Nat.{◌+◌, ◌-◌}
use mathlib.Core.Path.{◌≡◌, refl}
use native.Mathlib.Omega.{arith}
use Rattle.mir.specs.Shapes.{registers}
use Rattle.mir.proofs.Shapes.{room}
use Rattle.mir.proofs.shape.registers_of.Goals as goal

pub returns : goal.returns
unfolding registers
returns c =
    let s = c.shape_of-s.result in
    let e : s.regs + (s.dsts + s.srcs) - s.regs ≡ s.dsts + s.srcs = omega arith in
    rw (e, c.shape_of-s.ensures) refl

pub overflow_add-end : goal.overflow_add-end
overflow_add-end c = omega (arith, room _ c.shape_of-s.ensures)

pub overflow_add-end-2 : goal.overflow_add-end-2
overflow_add-end-2 c = omega (arith, room _ c.shape_of-s.ensures)

pub offset_bounds-rec-s : goal.offset_bounds-rec-s
offset_bounds-rec-s c = omega (arith, room _ c.shape_of-s.ensures)

pub slice_bounds-result-end : goal.slice_bounds-result-end
slice_bounds-result-end c = omega (arith, room _ c.shape_of-s.ensures)
