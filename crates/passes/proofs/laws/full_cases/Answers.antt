-- By computation.
use Rattle.std.specs.Prelude.{refl}
use Rattle.mir.specs.Folds.{all_below}
use Rattle.mir.specs.Records.{record_at}
use Rattle.mir.specs.Renaming.{gens, produced, renamed, statics_to, regs_to}
use Rattle.mir.specs.Shapes.{shape_of, dests, sources}
use Rattle.passes.specs.Color.{pairs_from, first_below, plain_choice, choose, after_dest, after_dests, found_all, is_member}
use Rattle.passes.specs.Color.{joined, color_step, color_to, fullest_for, fullest_to, no_gen_source}
use Rattle.passes.specs.Contract.{fullest_of}
use Rattle.passes.specs.Create.{consumed, ends_to, ends_of}
use Rattle.passes.specs.FullCases.{of}
use Rattle.passes.proofs.laws.full_cases.Goals as goal

pub returns : goal.returns
unfolding of fullest_of fullest_to fullest_for no_gen_source all_below record_at gens produced renamed statics_to regs_to shape_of dests sources
    consumed ends_to ends_of pairs_from first_below plain_choice choose after_dest after_dests found_all is_member joined color_step color_to
returns c =
    record {
      both = refl;
      one = refl;
      none = refl;
      count_one = refl;
      count_none = refl;
      most = refl;
      last = refl;
      past = refl;
      nothing = refl;
      chosen = refl;
      unread = refl;
      found = refl;
      named = refl;
      halves = refl;
      first_half = refl;
      second_half = refl;
      named_first = refl;
      empty = refl;
      never_read = refl;
      read = refl;
      in_place = refl;
      two_at_once = refl;
      found_alone = refl;
      found_shared = refl;
      less_at_last = refl;
      after_a_label = refl;
      both_halves = refl;
      one_half = refl;
      no_half = refl;
      named_only = refl;
      no_records = refl;
      only_written = refl;
      named_sources = refl;
      at_first = refl;
      at_last = refl;
      second_word = refl;
    }
