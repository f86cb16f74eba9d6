-- `walks::set_words` meets its contract: by the two bounds on the number of members.
use native.Mathlib.Omega.{arith}
use Rattle.walks.proofs.Walks.{members_most, members_by_name}
use Rattle.walks.proofs.set_words.Goals as goal

pub returns-then-most-le-SHORT-clause-members : goal.returns-then-most-le-SHORT-clause-members
returns-then-most-le-SHORT-clause-members c s h = members_most s c.args.list.now c.args.table.now h

pub returns-clause-members : goal.returns-clause-members
returns-clause-members c s h =
    omega (arith, members_most s c.args.list.now c.args.table.now h, members_by_name s c.args.list.now c.args.table.now h, c.all_named.ensures.pairs, c.min.ensures)
