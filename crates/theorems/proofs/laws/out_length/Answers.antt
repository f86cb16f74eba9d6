use Rattle.theorems.proofs.Lengths.{out_length}
use Rattle.theorems.proofs.laws.out_length.Goals as goal

pub returns : goal.returns
returns c = out_length
