-- `mir::questions::check_sizes` meets its contract: question 1 is put before 3 and 4.
use mathlib.Core.Path.{sym, ◌∙◌}
use Rattle.mir.proofs.Asked.{asked_stops, asked_passes}
use Rattle.mir.proofs.Passing.{sizes_parts}
use Rattle.mir.proofs.questions.check_sizes.Goals as goal

pub returns-in_err-check_count : goal.returns-in_err-check_count
returns-in_err-check_count c =
    asked_stops c.check_count.ensures _ c.from_residual.result c.in_err-check_count.was c.from_residual.ensures.1
    ∙ sym (sizes_parts c.args.room c.args.count_regs c.args.list c.args.table)

pub returns : goal.returns
returns c =
    c.check_lengths.ensures
    ∙ (asked_passes c.check_count.ensures _ c.in_ok-check_count.was
    ∙ sym (sizes_parts c.args.room c.args.count_regs c.args.list c.args.table))
