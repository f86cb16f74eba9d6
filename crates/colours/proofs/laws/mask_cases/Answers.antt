-- By computation.
use Rattle.std.specs.Prelude.{refl}
use Rattle.colours.specs.Colours.{allocs_in}
use Rattle.colours.specs.Masks.{is_in}
use Rattle.colours.proofs.laws.mask_cases.Goals as goal

pub returns : goal.returns
unfolding is_in allocs_in
returns c =
    record {
      no_bit = refl;
      bit_0 = refl;
      not_bit_1 = refl;
      not_bit_0 = refl;
      bit_2 = refl;
      not_bit_62 = refl;
      bit_63 = refl;
      all_from_0 = refl;
      all_to_63 = refl;
      none_at_64 = refl;
      first_index = refl;
      last_index = refl;
      next_space = refl;
      in_param = refl;
      last_location = refl;
      no_location = refl;
      in_none = refl;
      in_one = refl;
      in_last = refl;
      not_in = refl;
      last_gen = refl;
      first_named = refl;
      no_lives = refl;
      no_words = refl;
      two_colours = refl;
    }
