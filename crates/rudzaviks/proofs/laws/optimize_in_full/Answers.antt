use Rattle.rudzaviks.proofs.InFull.{optimize_in_full}
use Rattle.rudzaviks.proofs.laws.optimize_in_full.Goals as goal

pub returns : goal.returns
returns c = optimize_in_full
