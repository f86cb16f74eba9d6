use Rattle.sets.proofs.Bound.{thirty_five}
use Rattle.sets.proofs.laws.thirty_five.Goals as goal

pub returns : goal.returns
returns c = thirty_five
