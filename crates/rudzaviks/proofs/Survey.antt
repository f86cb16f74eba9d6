-- The promise of `rudzaviks_survey`, from what `survey` answers and from the slice of parts.
-- Its verdict is that of `survey` if the slice has room, and otherwise the refusal of the sizes.
use Prim.Native.Nat.{ℕ, ◌<◌, ◌≤◌}
use mathlib.Core.Bool.{Bool, false}
use mathlib.Core.List.{List, []}
use mathlib.Core.Path.{◌≡◌, sym, ap, ◌∙◌}
use lib.ListN.{length}
use borrow.Author.Tests.{le-leb, lt-leb}
use Rattle.std.specs.Prelude.{Result}
use Rattle.mir.specs.declared.refusal.Refusal.{Refusal}
use Rattle.survey.specs.declared.Registers.{Registers}
use Rattle.mir.specs.Answers.{Verdict}
use Rattle.mir.specs.Answers.{Passed, Refused}
use Rattle.mir.specs.Answers.{unless}
use Rattle.survey.specs.Beside.{parts, survey_of, survey_report}
use Rattle.mir.specs.Questions.{sizes_refusal, refusal_beside}
use Rattle.mir.proofs.Clash.{clash}
use Rattle.mir.proofs.Passing.{sizes_pass}
use Rattle.rudzaviks.specs.Exports.{RudzaviksSurvey, survey_verdict, report_word, place_word, parts_words, records_word}
use Rattle.rudzaviks.proofs.Written.{written, left_by}

module _ {count_regs label : ℕ} {compress : Bool} {list table held : List ℕ} where
  -- an answer as `survey` gave it
  pub survey_answered : {result given : Result Registers Refusal} {now : List ℕ} → 4 ≤ length held
      → survey_report result ≡ survey_of count_regs compress label list table → result ≡ given
      → now ≡ written parts_words (survey_report given) held
      → RudzaviksSurvey count_regs compress label list table held now (report_word place_word (survey_report given))
  unfolding survey_of survey_verdict
  survey_answered {given = given} h p g c =
      let v = survey_verdict count_regs list table held in
      let values = parts compress label list in
      let r : survey_report given ≡ unless v values = rw (le-leb 4 (length held) h, ← g) p in
      record {
        word = ap (report_word place_word) r;
        words = c ∙ (ap (λ report. written parts_words report held) r) ∙ sym (left_by parts_words v values held);
      }

  -- no room for the parts
  pub survey_short : (w : Verdict) → length held < 4 → w ≡ sizes_refusal false count_regs (length list) (length table)
      → RudzaviksSurvey count_regs compress label list table held held (report_word records_word (unless w []))
  unfolding survey_verdict refusal_beside
  survey_short Passed h e = clash (cc (sizes_pass false count_regs (length list) (length table) (sym e)).roomy)
  survey_short (Refused number index) h e =
      let f : survey_verdict count_regs list table held ≡ Refused number index = rw (lt-leb 4 (length held) h, ← e) in
      record { word = rw f; words = rw f }
