-- `walks::contract::contract` meets its contract: before each record the output, the ends and the counts are the
-- definitions', by what `Contracting` says of a record.
use Prim.Native.Nat.{ℕ, ◌≤◌}
use mathlib.Core.List.{List}
use mathlib.Core.Path.{◌≡◌}
use Rattle.mir.specs.Records.{records, fixed_mark}
use Rattle.mir.specs.declared.config.Settings.{Settings}
use Rattle.sets.specs.Members.{members_in}
use Rattle.walks.specs.Walks.{Colored}
use Rattle.walks.proofs.contract.Invariant.{Contracting}
use Rattle.mir.proofs.Renaming.{Walked}
use Rattle.walks.proofs.contract.contract.Given as goal

abbrev pub invariant-loop-rec : goal.invariant-loop-rec
invariant-loop-rec l =
    (l.rec-index ≤ records l.list)
    × (Walked l.list l.rec-index l.renaming
    × ((s : Settings) (table : List ℕ) → l.fixed ≡ fixed_mark s → Colored s l.list table l.colours l.initial.ends (members_in l.set)
    → Contracting s l.list table l.initial.ends l.initial.out l.rec-index l.ends l.out l.tally))
