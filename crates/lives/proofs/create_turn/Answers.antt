-- `lives::create_turn` meets its contract: the calls' equations together.
-- The record's statics are the part of the ends between the two numbers.
use Prim.Native.Nat.{◌-◌}
use mathlib.Core.Path.{◌≡◌, refl, ◌∙◌}
use native.Mathlib.Omega.{arith}
use lib.ListN.{length, replicate, take, drop}
use Rattle.mir.specs.Renaming.{gens}
use Rattle.mir.specs.Shapes.{dests}
use Rattle.mir.proofs.Asked.{asked_ok}
use Rattle.mir.proofs.Renaming.{gens_two}
use borrow.Author.Rules.{rules}
use Rattle.lives.proofs.create_turn.Goals as goal

pub slice_bounds-fill-end : goal.slice_bounds-fill-end
slice_bounds-fill-end c =
    omega (arith, c.pass.ensures.statics, gens_two c.args.rec.now, c.requires.few, c.consume_sources.auto.ends)

pub returns : goal.returns
returns c =
    let first = c.args.renaming.now.statics in
    let read = c.consume_sources.new.ends in
    let made : c.pass.new.self.statics - first ≡ gens (dests c.args.rec.now) = omega (arith, c.pass.ensures.statics) in
    let long : length (take (c.pass.new.self.statics - first) (drop first read)) ≡ c.pass.new.self.statics - first = search rules in
    let filled : c.fill.new.self ≡ replicate (c.pass.new.self.statics - first) c.args.end = rw long at (c.fill.ensures.after (λ y e. e)) in
    record {
      none = asked_ok c.in_ok-check_record.was c.check_record.ensures;
      regs_are = c.pass.ensures.regs;
      statics_are = c.pass.ensures.statics;
      past_is = c.past_after-after.ensures ∙ rw c.requires.kind_is refl;
      ends_are = rw (filled, made, c.consume_sources.ensures) refl;
    }
