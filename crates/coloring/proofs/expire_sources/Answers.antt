-- `coloring::expire_sources` meets its contract: the sources passed have become free, if their lives end here.
-- By one source more.
use native.Mathlib.Numerals.{add-one}
use lib.ListN.{length-map}
use lib.Seq.{take-suc, take_all}
use Rattle.std.proofs.lemmas.List.{get_or-map, map-append}
use Rattle.passes.specs.Color.{source_word}
use Rattle.colours.proofs.Expiring.{expired_none, expired_more}
use Rattle.coloring.proofs.expire_sources.Goals as goal

pub loop-w-init : goal.loop-w-init
loop-w-init c = expired_none _ _

-- its colour is among the record's
pub expire-requires : goal.expire-requires
expire-requires c =
    let f = source_word c.args.renaming.now.regs c.args.colours.now in
    let ws = c.sources_of-w-items.result.now in
    let coloured = rw (← c.sources_of-w-items.ensures) at c.requires.coloured in
    rw (c.deallocate.ensures, ← (get_or-map f ws c.loop-w.w-index 0 0 c.loop-w-test.true)) (coloured c.loop-w.w-index (rw (length-map ws f) c.loop-w-test.true))

pub loop-w-preserved : goal.loop-w-preserved
loop-w-preserved c =
    let f = source_word c.args.renaming.now.regs c.args.colours.now in
    let ws = c.sources_of-w-items.result.now in
    rw (add-one, take-suc ws c.loop-w.w-index 0 c.loop-w-test.true, map-append) (expired_more _ c.loop-w.invariant (rw c.deallocate.ensures at c.expire.ensures))

pub returns : goal.returns
returns c =
    let ws = c.sources_of-w-items.result.now in
    rw (← c.sources_of-w-items.ensures) (rw (take_all c.loop-w.w-index ws c.loop-w-test.false) at c.loop-w.invariant)
