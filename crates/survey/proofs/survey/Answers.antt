-- `survey::survey` meets its contract: a refusal of the sizes is handed on, and a list that passes them is walked over.
use mathlib.Core.Path.{sym, ap, ◌∙◌}
use Rattle.survey.specs.Beside.{survey_of}
use Rattle.mir.specs.Questions.{refusal_beside}
use Rattle.mir.specs.Answers.{verdict_in}
use Rattle.mir.proofs.Asked.{passed_on}
use Rattle.mir.proofs.Passing.{sizes_pass}
use Rattle.survey.proofs.survey.Goals as goal

pub survey_records-requires : goal.survey_records-requires
survey_records-requires c =
    let p = sizes_pass _ _ _ _ (sym c.check_sizes.ensures ∙ ap verdict_in c.in_ok-check_sizes.was) in
    record {
      count_regs_bound = p.few;
      table_value = p.sized;
    }

pub returns-in_err-check_sizes : goal.returns-in_err-check_sizes
unfolding survey_of refusal_beside
returns-in_err-check_sizes c =
    rw (passed_on c.from_residual.result c.from_residual.ensures.1)
    (simp (sym c.check_sizes.ensures ∙ ap verdict_in c.in_err-check_sizes.was))

pub returns : goal.returns
unfolding survey_of refusal_beside
returns c =
    simp (sym c.check_sizes.ensures ∙ ap verdict_in c.in_ok-check_sizes.was) c.survey_records.ensures
