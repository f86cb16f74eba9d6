-- `colours::allocs::Allocs::assign` meets its contract: one colour is given, and so are its bits; then it is counted.
use mathlib.Core.Path.{refl}
use Rattle.colours.proofs.Steps.{stands_given}
use Rattle.colours.proofs.allocs.Allocs.assign.Goals as goal

pub returns : goal.returns
returns c =
    let free = c.with_bit-self.ensures in
    let held = c.with_bit-self-2.ensures in
    record {
      stands = λ n allocs inside s. stands_given s c.args.c c.args.end c.args.want inside c.max-life.ensures _ free held refl refl refl refl;
      needed = λ n allocs inside s.
          c.needed.ensures n c.args.i _ (stands_given s c.args.c c.args.end c.args.want inside c.max-life.ensures _ free held refl refl refl refl);
    }
