use Rattle.mir.specs.Records.{records, fixed_mark}
use Rattle.passes.specs.Color.{setup}
use Rattle.passes.specs.Contract.{count_of}
use Rattle.theorems.proofs.Lengths.{counts_add}
use Rattle.theorems.proofs.laws.counts_add.Goals as goal

pub returns : goal.returns
unfolding count_of
returns c s list table = counts_add (fixed_mark s) (setup s list table) (records list)
