-- `statics::write_statics` meets its contract: each turn writes one entry more.
-- By the law of the next entry.
use Rattle.std.proofs.Common.{refl, arith}
use Rattle.allocator.specs.Statics.{entries}
use Rattle.allocator.proofs.statics.Entries.{written_next}
use Rattle.allocator.proofs.statics.write_statics.Goals as goal

pub loop-k-init : goal.loop-k-init
unfolding entries
loop-k-init c = refl

pub loop-k-preserved : goal.loop-k-preserved
loop-k-preserved c =
    written_next c.args.colours.now c.args.ends.now c.args.statics.now c.loop-k.k c.loop-k.invariant (omega arith) (omega arith) (omega arith)
