-- `lives::create` meets its contract: each class has the space for its lists.
-- The last one's is that of the longest list that passes question 3.
use native.Mathlib.Omega.{arith}
use Rattle.mir.proofs.Passing.{well_sized_lem}
use Rattle.lives.proofs.create.Goals as goal

pub create_in-requires-else-records-le5120-clause-space : goal.create_in-requires-else-records-le5120-clause-space
create_in-requires-else-records-le5120-clause-space c = omega (arith, well_sized_lem _ _ c.requires.sized)
