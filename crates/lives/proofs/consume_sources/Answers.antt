-- `lives::consume_sources` meets its contract: the sources passed have been read.
-- By one source more.
use mathlib.Core.Path.{refl}
use native.Mathlib.Numerals.{add-one}
use lib.Seq.{take-suc, take_all}
use Rattle.passes.specs.Create.{consumed}
use Rattle.lives.proofs.Ends.{consumed_next}
use Rattle.lives.proofs.consume_sources.Goals as goal

pub loop-w-init : goal.loop-w-init
unfolding consumed
loop-w-init c = refl

pub consume-requires : goal.consume-requires
consume-requires c = rw c.loop-w.auto.ends c.requires.statics_fit

pub loop-w-preserved : goal.loop-w-preserved
loop-w-preserved c =
    let ws = c.sources_of-w-items.result.now in
    rw (add-one, take-suc ws c.loop-w.w-index 0 c.loop-w-test.true, consumed_next, ← c.loop-w.invariant) c.consume.ensures

pub returns : goal.returns
returns c =
    let ws = c.sources_of-w-items.result.now in
    rw (← c.sources_of-w-items.ensures) (rw (take_all c.loop-w.w-index ws c.loop-w-test.false) at c.loop-w.invariant)
