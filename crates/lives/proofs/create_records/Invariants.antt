-- `lives::create_records` meets its contract: no record passed is refused, and after each the slice starts with the ends so far.
-- By the laws of a walk that stops at the first refusal, and by `ends_next`, beside the renaming that every walk keeps.
use mathlib.Core.Path.{◌≡◌}
use Rattle.mir.specs.Answers.{over}
use Rattle.mir.specs.Branches.{past_to}
use Rattle.mir.specs.Questions.{record_by}
use Rattle.mir.proofs.Folds.{Unrefused}
use Rattle.mir.proofs.Renaming.{Walked}
use Rattle.passes.specs.Create.{ends_to}
use Rattle.lives.proofs.create_records.Given as goal

abbrev pub invariant-loop-i : goal.invariant-loop-i
invariant-loop-i l =
    Unrefused (record_by l.table l.count_regs l.list) l.until l.i
    × Walked l.list l.i l.renaming
    × (l.past ≡ past_to l.list l.i)
    × (l.ends ≡ over (ends_to l.list l.i) l.initial.ends)
