-- `sized::reduce_with` meets its contract: the words that the count names are the colours and the ends.
-- There are at most two for a record, which have room; a refusal has written none.
use Rattle.std.proofs.Common.{arith}
use Rattle.allocator.proofs.sized.Written.{few_statics, kept, written}
use Rattle.mir.proofs.Asked.{passed_on}
use Rattle.walks.proofs.Leaves.{reduces_of}
use Rattle.walks.proofs.Walks.{passing_after}
use Rattle.allocator.proofs.sized.reduce_with.Goals as goal

pub write_statics-requires : goal.write_statics-requires
write_statics-requires c =
    let w = reduces_of _ _ _ _ (rw c.in_ok-counts.was at c.reduce.ensures) in
    let few = few_statics c.args.settings c.args.list.now c.args.table.now (passing_after _ _ _ c.requires.started w.0) w.1 in
    record {
      colours_room = omega (arith, few, c.requires.colours_room, c.reduce.auto.colours);
      ends_room = omega (arith, few, c.requires.ends_room, c.reduce.auto.ends);
      statics_room = omega (arith, few, c.requires.roomy.for_colours);
    }

pub returns : goal.returns
returns c =
    let w = reduces_of _ _ _ _ (rw c.in_ok-counts.was at c.reduce.ensures) in
    written c.args.settings c.args.list.now c.args.table.now (passing_after _ _ _ c.requires.started w.0) w.1 w.0 c.write_statics.ensures

pub returns-in_err-counts : goal.returns-in_err-counts
returns-in_err-counts c =
    rw (passed_on c.from_residual.result c.from_residual.ensures.1)
    (kept _ _ _ c.args.statics.now _ (rw c.in_err-counts.was at c.reduce.ensures))
