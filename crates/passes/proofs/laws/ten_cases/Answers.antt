-- By computation.
use Rattle.std.specs.Prelude.{refl}
use Rattle.mir.specs.Branches.{is_label, is_branch, label_of, past_to}
use Rattle.mir.specs.Folds.{all_below, any_below, first_refusal}
use Rattle.mir.specs.Questions.{refusal, record_refusal, record_no, few_registers, few_args, well_sized, known_kind, fields_fit, words_fit}
use Rattle.mir.specs.Questions.{pairs_fit, gens_fit, partner_fits, sources_named, sources_since, branch_refusal}
use Rattle.mir.specs.Records.{record_at, fixed_mark}
use Rattle.mir.specs.Renaming.{gens, produced, renamed, statics_to, regs_to}
use Rattle.mir.specs.Shapes.{shape_of, dests, sources, registers}
use Rattle.passes.specs.Create.{consumed, ends_to, ends_of}
use Rattle.passes.specs.Color.{pairs_from, first_below, plain_choice, choose, after_dest, word_for, after_dests, words_for, found_all}
use Rattle.passes.specs.Color.{is_member, joined, colored, color_step, color_to}
use Rattle.passes.specs.Contract.{outcome_of, out_at, outcome_at, reduced_to, reduced}
use Rattle.passes.specs.TenCases.{of, case_f}
use Rattle.passes.proofs.laws.ten_cases.Goals as goal

pub returns : goal.returns
unfolding of case_f refusal record_refusal record_no few_registers few_args well_sized known_kind fields_fit words_fit pairs_fit gens_fit
    partner_fits sources_named sources_since branch_refusal is_label is_branch label_of past_to all_below any_below first_refusal record_at
    fixed_mark gens produced renamed statics_to regs_to shape_of
    dests sources registers consumed ends_to ends_of pairs_from first_below plain_choice choose after_dest word_for after_dests words_for
    found_all is_member joined colored color_step color_to outcome_of out_at outcome_at reduced_to reduced
returns c =
    record { a = refl; b = refl; c = refl; d = refl; e = refl; f = refl; g = refl; h = refl; i = refl; j = refl }
