-- By computation.
use Rattle.std.specs.Prelude.{refl}
use Rattle.mir.specs.Renaming.{produced}
use Rattle.passes.specs.Color.{first_below, plain_choice, choose}
use Rattle.passes.proofs.laws.wide_cases.Goals as goal

pub returns : goal.returns
unfolding produced first_below plain_choice choose
returns c =
    record {
      registers = refl;
      colours = refl;
      static = refl;
      no_static = refl;
      assigned = refl;
      given = refl;
      free = refl;
      free_for_a_cell = refl;
      found = refl;
      one_fewer = refl;
      no_colour = refl;
    }
