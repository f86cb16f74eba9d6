-- `questions::branches::strike` meets its contract: the numbers of the Labels passed have been taken out.
-- By one Label more.
use Prim.Native.Nat.{◌≤◌}
use mathlib.Core.Path.{◌≡◌}
use lib.ListN.{length}
use Rattle.mir.specs.Records.{records}
use Rattle.mir.specs.Branches.{label_at}
use Rattle.mir.specs.Folds.{any_below}
use Rattle.questions.specs.Table.{Without}
use Rattle.questions.proofs.branches.strike.Given as goal

abbrev pub invariant-loop-rec : goal.invariant-loop-rec
invariant-loop-rec l =
    (l.rec-index ≤ records l.list) × (length l.table ≡ length l.initial.table) × Without (λ name. any_below l.rec-index (label_at l.list name)) l.initial.table l.table
