-- `lives::consume` meets its contract: the register's current static says which case of the definition holds.
use mathlib.Core.Path.{sym, ◌∙◌}
use native.Mathlib.Omega.{arith}
use Rattle.mir.proofs.Renaming.{holder_is_gen}
use Rattle.lives.proofs.Ends.{consumed_nothing}
use Rattle.lives.proofs.consume.Goals as goal

pub returns-in_default : goal.returns-in_default
returns-in_default c = consumed_nothing _ _ c.args.w _ (sym c.static_of.ensures ∙ c.in_default.is)

pub bounds-ends-s : goal.bounds-ends-s
bounds-ends-s c =
    omega (arith, c.args.renaming.now.known.known c.args.w c.in-Some.s (sym c.static_of.ensures ∙ c.in-Some.is), c.requires)

pub returns : goal.returns
returns c =
    let held = sym c.static_of.ensures ∙ c.in-Some.is in
    simp (holder_is_gen c.args.w c.args.renaming.now.regs c.args.renaming.now.known.size held, held)
