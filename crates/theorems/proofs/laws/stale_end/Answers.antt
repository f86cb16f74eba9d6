use Rattle.std.specs.Prelude.{true}
use Rattle.mir.proofs.Passing.{list_passes}
use Rattle.passes.specs.Machine.{Passing}
use Rattle.theorems.proofs.Past.{stale_end}
use Rattle.theorems.proofs.laws.stale_end.Goals as goal

pub returns : goal.returns
unfolding Passing
returns c s list table passing = stale_end s list table (list_passes true s list table passing)
