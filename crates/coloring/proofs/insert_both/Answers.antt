-- `coloring::insert_both` meets its contract: the location joins before its partner. The rest is found.
use Rattle.passes.specs.Color.{joined}
use Rattle.theorems.proofs.ReadSet.{join_grows}
use Rattle.sets.proofs.Pairs.{holds_more}
use Rattle.coloring.proofs.insert_both.Goals as goal

pub returns : goal.returns
unfolding joined
returns c =
    let first = c.insert.ensures in
    let both = c.insert-2.ensures in
    holds_more first (join_grows _ _) (rw (first.members, c.partner.ensures) at both)
