-- `mir::questions::well_sized` meets its contract: its tests are the definition's.
use Rattle.std.proofs.Common.{arith}
use Rattle.std.proofs.lemmas.Grind.{common_steps}
use Rattle.mir.specs.Questions.{well_sized}
use Rattle.mir.proofs.questions.well_sized.Goals as goal

pub returns-then-table-eq0 : goal.returns-then-table-eq0
unfolding well_sized
returns-then-table-eq0 c = grind (arith, common_steps)

pub returns-else-table-eq0 : goal.returns-else-table-eq0
unfolding well_sized
returns-else-table-eq0 c = grind (arith, common_steps)
