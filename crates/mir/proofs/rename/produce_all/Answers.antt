-- `mir::rename::produce_all` meets its contract: x takes its static before y, and each destination counts by itself.
-- Each arm has the destinations that its pattern tells.
use mathlib.Core.Path.{refl}
use native.Mathlib.Nat.{add-zero}
use native.Mathlib.Omega.{arith}
use Rattle.mir.specs.Renaming.{gens, produced}
use Rattle.mir.proofs.Renaming.{one_le}
use Rattle.mir.proofs.Shapes.{dests_told}
use Rattle.mir.proofs.rename.produce_all.Goals as goal

pub overflow_add-result : goal.overflow_add-result
overflow_add-result c = rw c.count_static.ensures (omega (arith, one_le c.in-One.x))

pub overflow_add-after : goal.overflow_add-after
overflow_add-after c = rw c.count_static-in-Two.ensures (omega (arith, one_le c.in-Two.x))

pub returns-in-Nothing : goal.returns-in-Nothing
unfolding produced gens
returns-in-Nothing c =
    rw (dests_told c.dests_of.ensures c.in-Nothing.is) record { regs = refl; next = omega arith }

pub returns-in-One : goal.returns-in-One
unfolding produced gens
returns-in-One c =
    rw (dests_told c.dests_of.ensures c.in-One.is)
    record { regs = c.produce.ensures; next = rw (c.count_static.ensures, add-zero) refl }

pub returns-in-Two : goal.returns-in-Two
unfolding produced gens
returns-in-Two c =
    let first = c.count_static-in-Two.ensures in
    let after = c.count_static-in-Two-2.ensures in
    rw (dests_told c.dests_of.ensures c.in-Two.is)
    record { regs = rw (← first, ← c.produce-in-Two.ensures) c.produce-in-Two-2.ensures; next = rw (first, after, add-zero) (omega arith) }
