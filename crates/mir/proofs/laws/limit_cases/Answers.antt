-- By computation; the longest lists by rewriting.
use Rattle.std.specs.Prelude.{◌≡◌, ℕ, true, false, List, length, refl}
use mathlib.Core.Bool.{and-false}
use Rattle.mir.specs.Answers.{Refused}
use Rattle.mir.specs.Branches.{is_label, is_branch, label_of, past_to}
use Rattle.mir.specs.Folds.{all_below, any_below, or_else, first_refusal}
use Rattle.mir.specs.LimitCases.{of, one_more, as_gens, most}
use Rattle.mir.specs.Questions.{refusal, refusal_beside, sizes_refusal, record_refusal, shape_refusal, record_no, shape_no, few_registers, few_args, well_sized}
use Rattle.mir.specs.Questions.{known_kind, fields_fit, words_fit, pairs_fit, gens_fit, partner_fits, sources_named, sources_since, branch_refusal}
use Rattle.mir.specs.Records.{record_at}
use Rattle.mir.specs.Renaming.{gens, produced, renamed, statics_to, regs_to}
use Rattle.mir.specs.Shapes.{shape_of, dests, sources, registers}
use Rattle.mir.proofs.laws.limit_cases.Goals as goal

-- the lengths at their limits, for any list and table
module _ (list table : List ℕ) where
  longest_passes : length list ≡ 524288 → length table ≡ 65536 → most true list table ≡ or_else (record_refusal table 64 list) (branch_refusal list)
  unfolding refusal few_registers few_args well_sized
  longest_passes h k = rw (h, k)

  longer_list : length list ≡ 524296 → most false list table ≡ Refused 3 0
  unfolding refusal few_registers few_args well_sized
  longer_list h = rw h

  longer_table : length table ≡ 65538 → most false list table ≡ Refused 3 0
  unfolding refusal few_registers few_args well_sized
  longer_table h = rw (h, and-false)

pub returns : goal.returns
unfolding of one_more as_gens refusal refusal_beside sizes_refusal record_refusal shape_refusal record_no shape_no few_registers few_args well_sized
    known_kind fields_fit words_fit pairs_fit gens_fit partner_fits sources_named sources_since branch_refusal is_label is_branch label_of past_to
    all_below any_below first_refusal record_at gens produced renamed statics_to regs_to shape_of dests sources registers
returns c =
    record {
      words = record {
        passing = refl;
        above = refl;
        no_kind = refl;
        none_named = refl;
        none_past = refl;
        bad_pair = refl;
        good_pair = refl;
      };
      registers = record {
        uni = refl;
        bi = refl;
        mov = refl;
        load = refl;
        save = refl;
        load_complex = refl;
        save_complex = refl;
        load_const = refl;
        fused = refl;
        if_else = refl;
        branch_if = refl;
        load_math = refl;
        load_const_math = refl;
        complex_bi = refl;
        no_register = refl;
      };
      lists = record {
        passing = refl;
        one = refl;
        two = refl;
        three_list = refl;
        three_table = refl;
        longest = longest_passes;
        list_too_long = longer_list;
        table_too_long = longer_table;
        four = refl;
        five = refl;
        six = refl;
        seven = refl;
        eight = refl;
        nine = refl;
        later = refl;
        written_63 = refl;
        read_63 = refl;
        unset_63 = refl;
        gen_64 = refl;
        gen_255 = refl;
        one_beside = refl;
        three_beside = refl;
        three_table_beside = refl;
        four_beside = refl;
        passing_beside = refl;
        five_beside = refl;
        six_beside = refl;
        seven_beside = refl;
        later_beside = refl;
      };
    }
