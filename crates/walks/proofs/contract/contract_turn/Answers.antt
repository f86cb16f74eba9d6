-- `walks::contract::contract_turn` meets its contract: the calls' equations together.
-- The record's statics are the part of the ends between the two numbers.
use Prim.Native.Nat.{◌-◌}
use mathlib.Core.Path.{◌≡◌, refl}
use native.Mathlib.Omega.{arith}
use Rattle.mir.specs.Renaming.{gens}
use Rattle.mir.specs.Shapes.{dests}
use Rattle.mir.proofs.Renaming.{gens_two}
use Rattle.walks.proofs.contract.contract_turn.Goals as goal

pub slice_bounds-unmark-end : goal.slice_bounds-unmark-end
slice_bounds-unmark-end c =
    omega (arith, c.pass.ensures.statics, gens_two c.args.rec.now, c.requires.may_turn.ends_room)

pub returns : goal.returns
returns c =
    let made : c.pass.new.self.statics - c.args.renaming.now.statics ≡ gens (dests c.args.rec.now) = omega (arith, c.pass.ensures.statics) in
    record {
      regs_are = c.pass.ensures.regs;
      statics_are = c.pass.ensures.statics;
      ends_are = rw (c.unmark.ensures, made) refl;
      tally_is = rw c.outcome_of-outcome.ensures at c.add.ensures;
      out_is = rw c.outcome_of-outcome.ensures at c.keep.ensures;
    }
