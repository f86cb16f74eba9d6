-- `questions::branches::is_in` meets its contract: the number stands at a place of its slot, or at none of the eight.
-- By the places passed.
use Prim.Native.Nat.{◌+◌, ◌*◌}
use mathlib.Core.Path.{sym}
use native.Mathlib.Omega.{arith}
use Rattle.questions.proofs.Targets.{holds_at, holds_none}
use Rattle.questions.proofs.branches.is_in.Goals as goal

pub returns-then-table-first : goal.returns-then-table-first
returns-then-table-first c =
    let e = c.slot-first.ensures.is in
    sym (holds_at _ _ (c.slot-first.result * 8 + c.loop-k.k) (omega arith) c.if-table-first.true)

pub returns : goal.returns
returns c =
    sym (holds_none _ _ (λ j l. rw c.slot-first.ensures.is at (c.loop-k.invariant.1 j (omega arith))))
