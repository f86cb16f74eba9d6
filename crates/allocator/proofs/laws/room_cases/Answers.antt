-- By computation.
use Rattle.std.specs.Prelude.{refl}
use Rattle.allocator.specs.Optimize.{room_for, room_in, room_in_words}
use Rattle.allocator.proofs.laws.room_cases.Goals as goal

pub returns : goal.returns
unfolding room_for room_in room_in_words
returns c =
    record {
      enough = refl;
      out = refl;
      statics = refl;
      set = refl;
      nothing = refl;
      all_in = refl;
      one_static = refl;
      short_set = refl;
      all_words = refl;
      one_colour = refl;
      one_end = refl;
    }
