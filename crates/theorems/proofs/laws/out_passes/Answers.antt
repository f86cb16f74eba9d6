use Rattle.std.specs.Prelude.{true}
use Rattle.mir.proofs.Passing.{list_passes}
use Rattle.passes.specs.Machine.{Passing}
use Rattle.theorems.proofs.Reduced.{out_passes}
use Rattle.theorems.proofs.laws.out_passes.Goals as goal

pub returns : goal.returns
unfolding Passing
returns c s list table passing = out_passes s list table (list_passes true s list table passing)
