-- `mir::shape::dests_of` meets its contract: there are none, one or two destinations, and they stand where the shape says.
-- By `dests_are`; the register words lie in the record.
use mathlib.Core.Path.{◌≡◌}
use native.Mathlib.Nat.{add-zero}
use native.Mathlib.Omega.{arith}
use Rattle.mir.proofs.Shapes.{room, few_dests, dests_are, shape_here}
use Rattle.mir.proofs.shape.dests_of.Goals as goal

pub returns-then-dsts-eq0 : goal.returns-then-dsts-eq0
returns-then-dsts-eq0 c = rw (dests_are c.args.rec.now _ (shape_here c.args.rec.now c.shape_of-s.ensures c.requires) (omega arith), c.if-dsts-eq0.true)

pub offset_bounds-rec-at : goal.offset_bounds-rec-at
offset_bounds-rec-at c = omega (arith, room _ c.shape_of-s.ensures)

pub bounds-rec-at : goal.bounds-rec-at
bounds-rec-at c = omega (arith, room _ c.shape_of-s.ensures)

pub returns-then-dsts-eq1 : goal.returns-then-dsts-eq1
returns-then-dsts-eq1 c = rw (dests_are c.args.rec.now _ (shape_here c.args.rec.now c.shape_of-s.ensures c.requires) (omega arith), c.if-dsts-eq1.true) (simp add-zero)

pub offset_bounds-rec-at-2 : goal.offset_bounds-rec-at-2
offset_bounds-rec-at-2 c = omega (arith, room _ c.shape_of-s.ensures)

pub bounds-rec-at-2 : goal.bounds-rec-at-2
bounds-rec-at-2 c =
    omega (arith, room _ c.shape_of-s.ensures, few_dests _ c.shape_of-s.ensures)

pub overflow_add-result : goal.overflow_add-result
overflow_add-result c = omega (arith, room _ c.shape_of-s.ensures)

pub offset_bounds-rec-at-3 : goal.offset_bounds-rec-at-3
offset_bounds-rec-at-3 c =
    omega (arith, room _ c.shape_of-s.ensures, few_dests _ c.shape_of-s.ensures)

pub bounds-rec-at-3 : goal.bounds-rec-at-3
bounds-rec-at-3 c =
    omega (arith, room _ c.shape_of-s.ensures, few_dests _ c.shape_of-s.ensures)

pub returns : goal.returns
returns c =
    let two : c.shape_of-s.result.dsts ≡ 2 = omega (arith, few_dests _ c.shape_of-s.ensures) in
    rw (dests_are c.args.rec.now _ (shape_here c.args.rec.now c.shape_of-s.ensures c.requires) (omega arith), two)
    (simp add-zero)
