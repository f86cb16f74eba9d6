-- `coloring::loc_of` meets its contract: the location stands where the shape says.
use Prim.Native.Nat.{ℕ, ◌+◌, ◌<◌}
use mathlib.Core.Path.{◌≡◌}
use native.Mathlib.Omega.{arith}
use Rattle.mir.specs.declared.shape.Shape.{Shape}
use Rattle.mir.specs.Shapes.{shape_of}
use Rattle.mir.proofs.Shapes.{loc_in_record}
use Rattle.coloring.proofs.loc_of.Goals as goal

-- both words are the record's
inside : (k : ℕ) {s : Shape} → s ≡ shape_of k → s.loc + 1 < 8
inside k e = rw e (omega (arith, loc_in_record k))

pub offset_bounds-rec-p : goal.offset_bounds-rec-p
offset_bounds-rec-p c = omega (arith, inside _ c.shape_of-s.ensures)

pub bounds-rec-p : goal.bounds-rec-p
bounds-rec-p c = omega (arith, inside _ c.shape_of-s.ensures)

pub overflow_add-result : goal.overflow_add-result
overflow_add-result c = omega (arith, inside _ c.shape_of-s.ensures)

pub offset_bounds-rec-p-2 : goal.offset_bounds-rec-p-2
offset_bounds-rec-p-2 c = omega (arith, inside _ c.shape_of-s.ensures)

pub bounds-rec-p-2 : goal.bounds-rec-p-2
bounds-rec-p-2 c = omega (arith, inside _ c.shape_of-s.ensures)
