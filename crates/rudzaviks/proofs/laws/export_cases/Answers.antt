-- By computation.
use Rattle.std.specs.Prelude.{refl}
use Rattle.mir.specs.Folds.{first_refusal}
use Rattle.mir.specs.Questions.{refusal, record_refusal, branch_refusal, few_registers, few_args, well_sized, known_kind, shape_no, shape_refusal, sizes_refusal, refusal_beside}
use Rattle.mir.specs.Records.{record_at}
use Rattle.allocator.specs.Optimize.{room_for, room_in_words}
use Rattle.file.specs.File.{word_in, words_in, settings_in, table_in, list_in, well_formed, file_verdict}
use Rattle.rudzaviks.specs.Exports.{survey_verdict, verdict_with}
use Rattle.rudzaviks.proofs.laws.export_cases.Goals as goal

pub returns : goal.returns
unfolding survey_verdict refusal_beside sizes_refusal shape_refusal shape_no known_kind record_at verdict_with room_in_words room_for word_in
    words_in settings_in table_in list_in well_formed file_verdict refusal record_refusal branch_refusal few_registers few_args well_sized
    first_refusal
returns c =
    record {
      refused = refl;
      place = refl;
      absent = refl;
      parts = refl;
      parts_absent = refl;
      high_word = refl;
      four_parts = refl;
      three_parts = refl;
      registers_first = refl;
      ragged_first = refl;
      no_kind = refl;
      records = refl;
      eight_counts = refl;
      seven_counts = refl;
      empty_file = refl;
      short_output = refl;
      short_file = refl;
      long_file = refl;
    }
