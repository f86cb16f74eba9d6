-- `sized::reduce_sized` meets its contract: each class has the space for its lists.
-- The last one's is that of the longest list that passes question 3.
use Rattle.std.proofs.Common.{true, arith}
use Rattle.mir.proofs.Passing.{start_passes, well_sized_lem}
use Rattle.allocator.proofs.sized.reduce_sized.Goals as goal

pub reduce_in-requires-clause-space : goal.reduce_in-requires-clause-space
reduce_in-requires-clause-space c = omega arith

pub reduce_in-requires-else-records-le5120-clause-space : goal.reduce_in-requires-else-records-le5120-clause-space
reduce_in-requires-else-records-le5120-clause-space c =
    omega (arith, well_sized_lem _ _ (start_passes true c.args.settings _ _ c.requires.started).sized)

pub ask_first-requires-clause-few : goal.ask_first-requires-clause-few
ask_first-requires-clause-few c = (start_passes true c.args.settings _ _ c.requires.started).few
