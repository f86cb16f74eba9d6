-- `survey::is_label` meets its contract: its tests are the definition's.
use Rattle.std.proofs.Common.{arith}
use Rattle.std.proofs.lemmas.Grind.{common_steps}
use Rattle.mir.specs.Branches.{is_label}
use Rattle.survey.proofs.is_label.Goals as goal

pub returns-then-rec-eq-LABEL : goal.returns-then-rec-eq-LABEL
unfolding is_label
returns-then-rec-eq-LABEL c = grind (arith, common_steps)

pub returns-else-rec-eq-LABEL : goal.returns-else-rec-eq-LABEL
unfolding is_label
returns-else-rec-eq-LABEL c = grind (arith, common_steps)
