-- A member of a number that is the location is a member.
use Rattle.std.proofs.Common.{sym, ◌∙◌}
use Rattle.sets.proofs.Pairs.{member_found}
use Rattle.sets.proofs.ReadSet.is_at.Goals as goal

pub returns-then-member-self : goal.returns-then-member-self
returns-then-member-self c same =
    let here = rw c.loc_at.ensures at c.eq.ensures in
    member_found c.args.self.now.words.now c.args.l c.args.member c.args.self.now.len (sym here ∙ same) c.if-member-self.true
