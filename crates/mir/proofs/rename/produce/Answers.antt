-- `mir::rename::produce` meets its contract: a store at a register, and none past them.
-- A store past the end of a list changes nothing.
use borrow.Author.Tests.{lt-ltb}
use native.Mathlib.Omega.{arith}
use Rattle.mir.proofs.Renaming.{produce_past}
use Rattle.mir.proofs.rename.produce.Goals as goal

pub returns-then-r-lt-MAX_REGS : goal.returns-then-r-lt-MAX_REGS
returns-then-r-lt-MAX_REGS c = simp (lt-ltb c.args.w 256 (omega arith))

pub returns-else-r-lt-MAX_REGS : goal.returns-else-r-lt-MAX_REGS
returns-else-r-lt-MAX_REGS c = produce_past c.args.w c.args.next c.args.regs.now (omega arith)
