use Rattle.theorems.proofs.Preserved.{scalar_is_straight}
use Rattle.theorems.proofs.laws.scalar_is_straight.Goals as goal

pub returns : goal.returns
returns c = scalar_is_straight
