-- The loop of `statics::write_statics`: the entries up to k are written, and the rest is what the slice held.
use Rattle.std.proofs.Common.{◌≡◌, ◌++◌, take, drop}
use Rattle.allocator.specs.Statics.{entries}
use Rattle.allocator.proofs.statics.write_statics.Given as goal

abbrev pub invariant-loop-k : goal.invariant-loop-k
invariant-loop-k l = l.statics ≡ entries (take l.k l.colours) (take l.k l.ends) ++ drop l.k l.initial.statics
