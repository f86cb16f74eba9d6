use Rattle.std.specs.Prelude.{true}
use Rattle.mir.proofs.Passing.{list_passes}
use Rattle.passes.specs.Machine.{Passing}
use Rattle.theorems.proofs.Landing.{target_same}
use Rattle.theorems.proofs.laws.target_same.Goals as goal

pub returns : goal.returns
unfolding Passing
returns c s list table passing = target_same s list table (list_passes true s list table passing)
