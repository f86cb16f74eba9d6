use Rattle.theorems.proofs.NeverEmpty.{ends_same}
use Rattle.theorems.proofs.laws.ends_same.Goals as goal

pub returns : goal.returns
returns c = ends_same
