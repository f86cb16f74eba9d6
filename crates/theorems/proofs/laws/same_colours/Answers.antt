use Rattle.theorems.proofs.SameColours.{same_colours}
use Rattle.theorems.proofs.laws.same_colours.Goals as goal

pub returns : goal.returns
returns c = same_colours
