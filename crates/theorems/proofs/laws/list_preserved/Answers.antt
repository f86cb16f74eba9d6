use Rattle.theorems.proofs.Preserved.{list_preserved}
use Rattle.theorems.proofs.laws.list_preserved.Goals as goal

pub returns : goal.returns
returns c = list_preserved
