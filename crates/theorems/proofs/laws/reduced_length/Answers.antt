use native.Mathlib.Omega.{arith}
use Rattle.mir.specs.Records.{records, fixed_mark}
use Rattle.passes.specs.Color.{setup}
use Rattle.passes.specs.Contract.{reduced, count_of}
use Rattle.theorems.proofs.Lengths.{reduced_length}
use Rattle.theorems.proofs.laws.reduced_length.Goals as goal

pub returns : goal.returns
unfolding reduced count_of
returns c s list table = reduced_length (fixed_mark s) (setup s list table) (records list) (omega arith)
