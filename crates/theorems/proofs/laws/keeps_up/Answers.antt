use Rattle.theorems.proofs.Preserved.{keeps_up}
use Rattle.theorems.proofs.laws.keeps_up.Goals as goal

pub returns : goal.returns
returns g c s list table passing covered = keeps_up s list table passing covered
