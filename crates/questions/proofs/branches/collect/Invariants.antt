-- `questions::branches::collect` meets its contract: the branches passed are in the table, and the first always gets in.
-- By what a number that is put leaves in the table; the first finds the table empty.
use Prim.Native.Nat.{ℕ, ◌+◌, ◌≤◌, ◌<◌}
use mathlib.Core.Bool.{true}
use mathlib.Core.List.{List}
use mathlib.Core.Path.{◌≡◌}
use lib.ListN.{length}
use Rattle.mir.specs.Branches.{is_branch, label_of}
use Rattle.questions.specs.Table.{holds}
use Rattle.mir.specs.Records.{record_at, records}
use Rattle.questions.proofs.branches.collect.Given as goal

-- what the loop keeps before record i
pub record Collecting (list table₀ table : List ℕ) (from i : ℕ) : Type 0 where
  pub after : from ≤ i
  pub same_length : length table ≡ length table₀
  pub untouched : i ≡ from → table ≡ table₀
  pub held : (k : ℕ) → from ≤ k → k < i → is_branch (record_at list k) ≡ true → holds table (label_of (record_at list k)) ≡ true

abbrev pub invariant-loop-k : goal.invariant-loop-k
invariant-loop-k l = (l.from + l.k ≤ records l.list) × Collecting l.list l.initial.table l.table l.from (l.from + l.k)
