-- `questions::check_start` meets its contract: each question is put once those before it have passed.
-- By what a `?` knows of an answer.
use mathlib.Core.Path.{◌∙◌}
use Rattle.mir.proofs.Asked.{asked_stops, asked_passes}
use Rattle.questions.proofs.check_start.Goals as goal

pub returns-in_err-check_count : goal.returns-in_err-check_count
returns-in_err-check_count c =
    asked_stops c.check_count.ensures _ c.from_residual.result c.in_err-check_count.was c.from_residual.ensures.1

pub returns-in_err-check_args : goal.returns-in_err-check_args
returns-in_err-check_args c =
    asked_stops c.check_args.ensures _ c.from_residual-in_err-check_args.result c.in_err-check_args.was c.from_residual-in_err-check_args.ensures.1
    ∙ asked_passes c.check_count.ensures _ c.in_ok-check_count.was

pub returns : goal.returns
returns c =
    c.check_lengths.ensures
    ∙ (asked_passes c.check_args.ensures _ c.in_ok-check_args.was ∙ asked_passes c.check_count.ensures _ c.in_ok-check_count.was)
