use Rattle.theorems.proofs.Ends.{straight_runs}
use Rattle.theorems.proofs.laws.straight_runs.Goals as goal

pub returns : goal.returns
returns g c m list start = straight_runs m list start
