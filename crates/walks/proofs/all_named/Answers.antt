-- `walks::all_named` meets its contract: before each record the sum is that of the records before it.
use mathlib.Core.Path.{◌≡◌, refl}
use native.Mathlib.Numerals.{add-one}
use native.Mathlib.Omega.{arith}
use Rattle.mir.specs.Records.{records}
use Rattle.theorems.specs.Named.{named_to}
use Rattle.walks.proofs.all_named.Goals as goal

pub loop-rec-init : goal.loop-rec-init
unfolding named_to
loop-rec-init c = (omega arith, refl, omega arith)

pub overflow_add-pairs : goal.overflow_add-pairs
overflow_add-pairs c =
    let here = c.records_of-rec-items.ensures.each c.loop-rec.rec-index c.loop-rec-test.true in
    omega (arith, here.0, c.loop-rec.invariant.2, c.requires)

pub loop-rec-preserved : goal.loop-rec-preserved
unfolding named_to
loop-rec-preserved c =
    let here = c.records_of-rec-items.ensures.each c.loop-rec.rec-index c.loop-rec-test.true in
    let inv = c.loop-rec.invariant in
    (omega (arith, here.0), rw (add-one c.loop-rec.rec-index, ← inv.1, ← here.1, c.named_pairs.ensures) refl, omega (arith, inv.2))

pub returns : goal.returns
returns c =
    let e : c.loop-rec.rec-index ≡ records c.args.list.now = omega (arith, c.loop-rec.invariant.0, c.records_of-rec-items.ensures.len, c.loop-rec-test.false) in
    record { pairs = rw e at (c.loop-rec.invariant.1); few = omega (arith, e, c.loop-rec.invariant.2, c.requires) }
