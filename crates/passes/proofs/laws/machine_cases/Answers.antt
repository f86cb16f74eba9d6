-- By computation.
use Rattle.std.specs.Prelude.{refl}
use Rattle.mir.specs.Records.{record_at}
use Rattle.passes.specs.Machine.{effect, turn, run_to, run}
use Rattle.passes.specs.MachineCases.{word, word_of, start, digits1, digits2, digits3, digits4, digits5, seen, after, picked, shown}
use Rattle.passes.proofs.laws.machine_cases.Goals as goal

pub returns : goal.returns
unfolding word word_of start digits1 digits2 digits3 digits4 digits5 seen after picked shown record_at effect turn run_to run
returns c =
    record {
      no_record = refl;
      of_nop = refl;
      of_end = refl;
      ended = refl;
      of_uni = refl;
      of_bi = refl;
      of_mov = refl;
      named_written = refl;
      named_read = refl;
      of_load = refl;
      of_save = refl;
      of_load_const = refl;
      of_fused = refl;
      if_zero = refl;
      if_minus_zero = refl;
      if_one = refl;
      if_high = refl;
      if_below_minus_zero = refl;
      if_above_minus_zero = refl;
      if_largest = refl;
      if_stack = refl;
      if_param = refl;
      of_select = refl;
      of_load_math = refl;
      of_load_const_math = refl;
      of_load_complex = refl;
      of_save_complex = refl;
      of_complex_bi = refl;
      complex_bi_named = refl;
      complex_bi_one = refl;
      in_order = refl;
    }
