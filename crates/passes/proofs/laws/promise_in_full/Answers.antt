use Rattle.passes.proofs.InFull.{promise_in_full}
use Rattle.passes.proofs.laws.promise_in_full.Goals as goal

pub returns : goal.returns
returns c = promise_in_full
