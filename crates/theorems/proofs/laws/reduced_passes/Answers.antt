use Rattle.theorems.proofs.Reduced.{reduced_passes}
use Rattle.theorems.proofs.laws.reduced_passes.Goals as goal

pub returns : goal.returns
returns c = reduced_passes
