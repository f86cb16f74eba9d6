-- `walks::all_named` meets its contract: before each record the sum is that of the records before it.
use Prim.Native.Nat.{◌*◌, ◌^◌, ◌≤◌}
use mathlib.Core.Path.{◌≡◌}
use Rattle.mir.specs.Records.{records}
use Rattle.theorems.specs.Named.{named_to}
use Rattle.walks.proofs.all_named.Given as goal

abbrev pub invariant-loop-rec : goal.invariant-loop-rec
invariant-loop-rec l = (l.rec-index ≤ records l.list) × (l.pairs ≡ named_to l.list l.rec-index) × (l.pairs ≤ l.rec-index * 2 ^ 32)
