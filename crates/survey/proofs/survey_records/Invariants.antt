-- `survey::survey_records` meets its contract: no record passed is refused, and the first no decides; the mask is that of the records
-- passed, and the place is the last Label's among them.
-- By the laws of a walk that stops at the first refusal.
use mathlib.Core.Path.{◌≡◌}
use Rattle.survey.specs.Beside.{mask_to, place_in}
use Rattle.mir.specs.Branches.{label_at}
use Rattle.mir.specs.Folds.{last_below}
use Rattle.mir.specs.Records.{records}
use Rattle.mir.specs.Questions.{shape_by}
use Rattle.mir.proofs.Folds.{Unrefused}
use Rattle.survey.proofs.survey_records.Given as goal

abbrev pub invariant-loop-i : goal.invariant-loop-i
invariant-loop-i l =
    Unrefused (shape_by l.table l.settings.count_regs l.list) (records l.list) l.i × (l.mask ≡ mask_to l.list l.i) × (place_in l.place ≡ last_below (label_at l.list l.label) l.i)
