use Rattle.sets.proofs.Bound.{few_passed}
use Rattle.sets.proofs.laws.few_passed.Goals as goal

pub returns : goal.returns
returns c words n heads at h some l b narrow all = few_passed h some l b narrow all
