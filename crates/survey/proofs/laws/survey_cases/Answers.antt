-- By computation.
use Rattle.std.specs.Prelude.{refl}
use Rattle.std.specs.Int.Count.{ones_in}
use Rattle.mir.specs.Branches.{is_label}
use Rattle.mir.specs.Folds.{all_below, first_refusal, last_below}
use Rattle.mir.specs.Questions.{few_registers, well_sized, known_kind, fields_fit, words_fit, pairs_fit, gens_fit, shape_no, shape_refusal, sizes_refusal, refusal_beside}
use Rattle.mir.specs.Records.{record_at}
use Rattle.mir.specs.Shapes.{shape_of, dests, sources, registers}
use Rattle.survey.specs.Beside.{counted, bits, mask_of, get_dst, mask_to, used_mask, parts, survey_of}
use Rattle.survey.proofs.laws.survey_cases.Goals as goal

pub returns : goal.returns
unfolding counted bits mask_of get_dst mask_to used_mask is_label last_below parts survey_of all_below first_refusal few_registers well_sized
    known_kind fields_fit words_fit pairs_fit gens_fit shape_no shape_refusal sizes_refusal refusal_beside record_at shape_of dests sources
    registers ones_in
returns c =
    record {
      kinds = refl;
      halves = refl;
      first = refl;
      last = refl;
      only = refl;
      largest = refl;
      branch_is_none = refl;
      nop_is_none = refl;
      every = refl;
      every_of_none = refl;
      none = refl;
      two_records = refl;
      refused_1 = refl;
      refused_3 = refl;
      refused_5 = refl;
      refused_7 = refl;
    }
