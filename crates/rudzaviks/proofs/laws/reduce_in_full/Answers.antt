use Rattle.rudzaviks.proofs.InFull.{reduce_in_full}
use Rattle.rudzaviks.proofs.laws.reduce_in_full.Goals as goal

pub returns : goal.returns
returns c = reduce_in_full
