-- Each pair joins the set that those before it have joined.
use Rattle.std.proofs.Common.{arith}
use Rattle.sets.specs.Members.{members_in}
use Rattle.theorems.proofs.ReadSet.{join_grows}
use Rattle.sets.proofs.Pairs.{holds_more, join_next}
use Rattle.sets.proofs.ReadSet.extend.Goals as goal

pub loop-j-preserved : goal.loop-j-preserved
loop-j-preserved c =
    let inv = c.loop-j.invariant.1 in
    let next = join_next (members_in c.args.self.now) c.args.table.now c.args.first c.loop-j.j in
    let joins = rw (inv.members, c.loc_at.ensures) at c.join_at-guess.ensures in
    (omega arith, holds_more inv (rw (← next) (join_grows _ _)) (rw next at joins))
