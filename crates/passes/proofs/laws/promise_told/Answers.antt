use Rattle.passes.proofs.PromiseTold.{promise_told}
use Rattle.passes.proofs.laws.promise_told.Goals as goal

pub returns : goal.returns
returns c = promise_told
