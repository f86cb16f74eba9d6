-- `coloring::color` meets its contract: before each record the slices and the set are the definitions'.
-- By what `Colouring` says of a record.
use Prim.Native.Nat.{◌≤◌}
use mathlib.Core.Path.{◌≡◌}
use Rattle.mir.specs.Records.{records}
use Rattle.passes.specs.Color.{setup, fullest_to}
use Rattle.coloring.specs.Walk.{state, Colouring}
use Rattle.coloring.proofs.color.Given as goal

abbrev pub invariant-loop-i : goal.invariant-loop-i
invariant-loop-i l =
    (l.i ≤ records l.list)
    × (l.fullest ≡ fullest_to (setup l.fn.settings l.list l.table) l.i)
    × Colouring l.fn.settings l.list l.table l.initial.colours l.initial.ends l.initial.set l.i (state l.allocs l.colours l.ends) l.set l.renaming
