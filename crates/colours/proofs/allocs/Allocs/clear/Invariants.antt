-- `colours::allocs::Allocs::clear` meets its contract: the colours passed are without the location, and those past the count hold none.
-- By the laws of a list that is changed element by element.
use Prim.Native.Nat.{ℕ, ◌≤◌}
use mathlib.Core.List.{List}
use Rattle.passes.specs.declared.alloc.Alloc.{Alloc}
use Rattle.passes.specs.Color.{without}
use Rattle.colours.specs.Colours.{loc_in, Stands}
use Rattle.colours.proofs.Mapped.{mapped_to}
use Rattle.colours.proofs.allocs.Allocs.clear.Given as goal

abbrev pub invariant-loop-c : goal.invariant-loop-c
invariant-loop-c l =
    (l.c ≤ l.initial.self.count) × ((n i : ℕ) (allocs : List Alloc) → Stands n i l.initial.self allocs → Stands n i l.self (mapped_to (without (loc_in l.l)) allocs l.c))
