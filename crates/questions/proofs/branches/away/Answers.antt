-- `questions::branches::away` meets its contract: 1 belongs to slot 316, and 0 to slot 0.
-- By computation.
use native.Mathlib.Omega.{arith}
use Rattle.questions.specs.Table.{slot_of}
use Rattle.questions.proofs.branches.away.Goals as goal

pub returns-then-s-eq0 : goal.returns-then-s-eq0
unfolding slot_of
returns-then-s-eq0 c e = omega arith

pub returns-else-s-eq0 : goal.returns-else-s-eq0
unfolding slot_of
returns-else-s-eq0 c e = omega arith
