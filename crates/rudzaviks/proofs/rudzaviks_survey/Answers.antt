-- `rudzaviks::rudzaviks_survey` meets its contract: it answers as `survey` does, or refuses where the parts have no room.
-- By the promise of either case.
use Prim.Native.Nat.{◌≤◌}
use mathlib.Core.Path.{◌≡◌, refl}
use lib.ListN.{length}
use Rattle.mir.specs.Answers.{verdict_in}
use Rattle.survey.specs.Beside.{survey_of, survey_report}
use Rattle.file.specs.File.{flag}
use Rattle.rudzaviks.proofs.Survey.{survey_answered, survey_short}
use Rattle.rudzaviks.proofs.rudzaviks_survey.Goals as goal

pub returns-then-parts-lt4 : goal.returns-then-parts-lt4
returns-then-parts-lt4 c =
    rw c.verdict_word.ensures
    (survey_short (verdict_in c.check_sizes.result) c.if-parts-lt4.true c.check_sizes.ensures)

pub returns-in-Ok : goal.returns-in-Ok
returns-in-Ok c =
    let promised : survey_report c.survey.result ≡ survey_of c.args.count_regs (flag c.args.compress) c.args.label c.args.list.now c.args.table.now =
    rw (c.settings_beside-settings.ensures.0, c.settings_beside-settings.ensures.1) at c.survey.ensures in
    let room : 4 ≤ length c.args.parts.now =
    c.if-parts-lt4.false in
    let words = rw c.place_word-index.ensures at c.write_parts.ensures in
    rw (c.from.ensures, c.place_word-index.ensures) (survey_answered room promised c.in-Ok.is words)

pub returns-in-Err : goal.returns-in-Err
returns-in-Err c =
    let promised : survey_report c.survey.result ≡ survey_of c.args.count_regs (flag c.args.compress) c.args.label c.args.list.now c.args.table.now =
    rw (c.settings_beside-settings.ensures.0, c.settings_beside-settings.ensures.1) at c.survey.ensures in
    let room : 4 ≤ length c.args.parts.now =
    c.if-parts-lt4.false in
    rw c.refusal_word.ensures (survey_answered room promised c.in-Err.is refl)
