use Rattle.theorems.proofs.Members.{members_once}
use Rattle.theorems.proofs.laws.members_once.Goals as goal

pub returns : goal.returns
returns c = members_once
