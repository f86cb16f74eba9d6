use Rattle.std.specs.Prelude.{true}
use Rattle.mir.proofs.Passing.{list_passes}
use Rattle.passes.specs.Machine.{Passing}
use Rattle.theorems.proofs.Members.{few_members}
use Rattle.theorems.proofs.laws.few_members.Goals as goal

pub returns : goal.returns
unfolding Passing
returns c s list table passing = few_members s list table (list_passes true s list table passing)
