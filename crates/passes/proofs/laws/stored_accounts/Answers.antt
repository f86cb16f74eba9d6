-- By computation.
use Rattle.std.specs.Prelude.{refl}
use Rattle.mir.specs.Records.{record_at, fixed_mark}
use Rattle.mir.specs.Renaming.{gens, produced, renamed, statics_to, regs_to}
use Rattle.mir.specs.Shapes.{shape_of, dests, sources}
use Rattle.passes.specs.Create.{consumed, ends_to, ends_of}
use Rattle.passes.specs.Color.{pairs_from, first_below, plain_choice, choose, after_dest, word_for, after_dests, words_for, found_all}
use Rattle.passes.specs.Color.{is_member, joined, colored, color_step, color_to}
use Rattle.passes.specs.Contract.{outcome_of, out_at, outcome_at, count_to, count_of}
use Rattle.passes.specs.StoredLists.{account, named_registers, moves, first_free, older_holder, read_by_others, dropped_loads, complex_mark, complex_loads, same_register}
use Rattle.passes.specs.StoredLists.{label_and_call, branches, thirty_two, found_halves, joining_halves, read_halves}
use Rattle.passes.proofs.laws.stored_accounts.Goals as goal

pub returns : goal.returns
unfolding account named_registers moves first_free older_holder read_by_others dropped_loads complex_mark complex_loads same_register
    label_and_call branches thirty_two found_halves joining_halves read_halves record_at fixed_mark gens produced
    renamed statics_to regs_to shape_of dests sources consumed ends_to ends_of pairs_from first_below plain_choice choose after_dest
    word_for after_dests words_for found_all is_member joined colored color_step color_to outcome_of out_at outcome_at count_to count_of
returns c =
    record {
      named_registers = refl;
      moves = refl;
      first_free = refl;
      older_holder = refl;
      read_by_others = refl;
      dropped_loads = refl;
      complex_mark = refl;
      complex_loads = refl;
      same_register = refl;
      label_and_call = refl;
      branches = refl;
      thirty_two = refl;
      found_halves = refl;
      joining_halves = refl;
      read_halves = refl;
    }
