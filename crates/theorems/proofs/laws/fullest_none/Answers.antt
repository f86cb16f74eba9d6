use Rattle.theorems.proofs.Fullest.{fullest_none}
use Rattle.theorems.proofs.laws.fullest_none.Goals as goal

pub returns : goal.returns
returns c = fullest_none
