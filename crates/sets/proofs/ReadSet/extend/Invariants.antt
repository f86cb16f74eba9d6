-- The pairs passed have joined.
use Rattle.std.proofs.Common.{◌≤◌}
use Rattle.passes.specs.Color.{pairs_from, joined}
use Rattle.sets.specs.Members.{members_in, SetHolds}
use Rattle.sets.proofs.ReadSet.extend.Given as goal

abbrev pub invariant-loop-j : goal.invariant-loop-j
invariant-loop-j l =
    (l.j ≤ l.count) × SetHolds l.self (joined (members_in l.initial.self) (pairs_from l.table l.first l.j)) l.initial.self
