-- By computation.
use Rattle.std.specs.Prelude.{refl}
use Rattle.mir.specs.Branches.{is_label, is_branch, label_of, past_to}
use Rattle.mir.specs.Folds.{all_below, any_below, first_refusal, last_below}
use Rattle.mir.specs.Questions.{refusal, record_refusal, record_no, few_registers, few_args, well_sized, known_kind, fields_fit, words_fit}
use Rattle.mir.specs.Questions.{pairs_fit, gens_fit, partner_fits, sources_named, sources_since, branch_refusal}
use Rattle.mir.specs.Records.{record_at, fixed_mark}
use Rattle.mir.specs.Renaming.{gens, produced, renamed, statics_to, regs_to}
use Rattle.mir.specs.Shapes.{shape_of, dests, sources, registers}
use Rattle.passes.specs.Create.{consumed, ends_to, ends_of}
use Rattle.passes.specs.Color.{pairs_from, first_below, plain_choice, choose, after_dest, word_for, after_dests, words_for, found_all}
use Rattle.passes.specs.Color.{is_member, joined, colored, color_step, color_to}
use Rattle.passes.specs.Contract.{outcome_of, out_at, outcome_at, reduced_to, reduced}
use Rattle.passes.specs.BranchRuns.{shown, after, thrice, thrice_reduced}
use Rattle.passes.specs.Machine.{effect, jumps, target, step, ended, onward, steps_to}
use Rattle.passes.proofs.laws.branch_runs.Goals as goal

pub returns : goal.returns
unfolding shown after thrice thrice_reduced record_at effect is_label label_of last_below jumps target step ended onward steps_to refusal
    record_refusal record_no branch_refusal few_registers few_args well_sized known_kind fields_fit words_fit pairs_fit gens_fit partner_fits
    sources_named sources_since is_branch past_to all_below any_below first_refusal fixed_mark gens produced renamed statics_to regs_to shape_of
    dests sources registers consumed ends_to ends_of pairs_from first_below plain_choice choose after_dest word_for after_dests words_for found_all
    is_member joined colored color_step color_to outcome_of out_at outcome_at reduced_to reduced
returns c =
    record {
      no_record = refl;
      over_first = refl;
      one_step = refl;
      past_last = refl;
      forward = refl;
      backward = refl;
      if_small = refl;
      if_large = refl;
      else_small = refl;
      else_large = refl;
      not_yet = refl;
      three_times = refl;
      is_reduced = refl;
      reduced_not_yet = refl;
      reduced_three_times = refl;
    }
