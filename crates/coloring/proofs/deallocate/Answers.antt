-- `coloring::deallocate` meets its contract: the register's current static says which case of the definition holds.
use mathlib.Core.Path.{sym, ◌∙◌}
use native.Mathlib.Omega.{arith}
use borrow.Author.Tests.{lt-ltb, le-ltb}
use Rattle.coloring.proofs.deallocate.Goals as goal

pub returns-then-w-ge256 : goal.returns-then-w-ge256
returns-then-w-ge256 c = rw (le-ltb _ _ c.if-w-ge256.true)

pub returns-in_default : goal.returns-in_default
returns-in_default c = rw (lt-ltb _ _ c.if-w-ge256.false, sym c.static_of.ensures ∙ c.in_default.is)

pub bounds-colours-s : goal.bounds-colours-s
bounds-colours-s c =
    omega (arith, c.args.renaming.now.known.known c.args.w c.in-Some.s (sym c.static_of.ensures ∙ c.in-Some.is), c.requires)

pub returns : goal.returns
returns c = rw (lt-ltb _ _ c.if-w-ge256.false, sym c.static_of.ensures ∙ c.in-Some.is)
