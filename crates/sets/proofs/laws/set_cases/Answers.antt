-- By computation.
use Rattle.std.specs.Prelude.{refl}
use native.Mathlib.Omega.{arith}
use Rattle.sets.specs.SetCases.{at}
use Rattle.sets.specs.Sets.{Path, here, there, passed}
use Rattle.sets.proofs.Paths.{path_none, path_next}
use Rattle.sets.proofs.laws.set_cases.Goals as goal

no_six : Path at 1 3 0 6 → ⊥
no_six p =
    let second : Path at 1 3 1 3 = path_next 0 p refl (λ e. omega arith) in
    let third : Path at 1 3 4 1 = path_next 1 second refl (λ e. omega arith) in
    path_none third refl

pub returns : goal.returns
unfolding passed
returns c =
    record {
      first = refl;
      last = refl;
      next_space = refl;
      single = refl;
      low_key = refl;
      space_key = refl;
      high_key = refl;
      low_link = refl;
      high_link = refl;
      largest_link = refl;
      past = refl;
      to_four = there 0 refl (there 1 refl (here refl));
      to_one = there 0 refl (here refl);
      six = no_six;
      pass_zero = refl;
      pass_four = refl;
      pass_six = refl;
      pass_once = refl;
      pass_none = refl;
      pass_two = refl;
      pass_all = refl;
      pass_no_more = refl;
      pass_before = refl;
      pass_even = refl;
    }
