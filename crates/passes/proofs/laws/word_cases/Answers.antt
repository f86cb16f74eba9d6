use Rattle.std.specs.Prelude.{refl}
use Rattle.passes.specs.MachineCases.{word_of}
use Rattle.passes.proofs.laws.word_cases.Goals as goal

pub returns : goal.returns
unfolding word_of
returns c =
    record { below = λ w. w.fits; each = λ n h. (word_of n h, refl) }
