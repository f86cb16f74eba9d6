use Rattle.theorems.proofs.Preserved.{preserved}
use Rattle.theorems.proofs.laws.preserved.Goals as goal

pub returns : goal.returns
returns g c s list table passing straight = preserved s list table passing straight
