use Rattle.theorems.proofs.NeverEmpty.{pool_never_empty}
use Rattle.theorems.proofs.laws.pool_never_empty.Goals as goal

pub returns : goal.returns
returns c = pool_never_empty
