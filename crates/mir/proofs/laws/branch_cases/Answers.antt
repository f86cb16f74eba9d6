-- By computation.
use Rattle.std.specs.Prelude.{refl}
use Rattle.mir.specs.BranchCases.{of, past, asked}
use Rattle.mir.specs.Branches.{is_label, is_branch, label_of, past_to}
use Rattle.mir.specs.Folds.{all_below, any_below, first_refusal, last_below}
use Rattle.mir.specs.Questions.{refusal, refusal_beside, sizes_refusal, record_refusal, shape_refusal, branch_refusal, record_no, shape_no, few_registers, few_args, well_sized}
use Rattle.mir.specs.Questions.{known_kind, fields_fit, words_fit, pairs_fit, gens_fit, partner_fits, sources_named, sources_since}
use Rattle.mir.specs.Records.{record_at}
use Rattle.mir.specs.Renaming.{gens, produced, renamed, statics_to, regs_to}
use Rattle.mir.specs.Shapes.{shape_of, dests, sources, registers}
use Rattle.mir.proofs.laws.branch_cases.Goals as goal

pub returns : goal.returns
unfolding of past asked refusal refusal_beside sizes_refusal record_refusal shape_refusal branch_refusal record_no shape_no few_registers few_args
    well_sized known_kind fields_fit words_fit pairs_fit gens_fit partner_fits sources_named sources_since is_label is_branch label_of past_to
    all_below any_below first_refusal last_below record_at gens produced renamed statics_to regs_to shape_of dests sources registers
returns c =
    record {
      sources = record {
        uni = refl;
        bi = refl;
        mov = refl;
        load = refl;
        save = refl;
        load_complex = refl;
        save_complex = refl;
        load_const = refl;
        fused = refl;
        if_else = refl;
        branch_if = refl;
        load_math = refl;
        load_const_math = refl;
        complex_bi = refl;
      };
      reads = record {
        own_read = refl;
        read_again = refl;
        write_clears = refl;
        other_write = refl;
        written_late = refl;
        first_static = refl;
        marked_again = refl;
        first_of_two = refl;
        past_branch = refl;
        named_register = refl;
        unreachable = refl;
        label_forgets = refl;
        call_forgets = refl;
        after_label = refl;
        nine_first = refl;
        nine_second = refl;
        eight_first = refl;
        fifteen_first = refl;
      };
      labels = record {
        forward = refl;
        backward = refl;
        to_none = refl;
        if_to_none = refl;
        first_such = refl;
        last_record = refl;
        number_of_if = refl;
        no_label = refl;
        another_kind = refl;
        five_later = refl;
        fifteen_later = refl;
        last_of_two = refl;
        not_beside = refl;
      };
    }
