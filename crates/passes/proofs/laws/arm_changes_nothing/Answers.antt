-- No definition looks at it.
use Rattle.std.specs.Prelude.{refl}
use Rattle.mir.specs.Questions.{refusal}
use Rattle.mir.specs.Records.{fixed_mark}
use Rattle.passes.specs.Arm.{armed}
use Rattle.passes.specs.Contract.{reduced, colours_of, members_of, count_of, fullest_of}
use Rattle.passes.proofs.laws.arm_changes_nothing.Goals as goal

pub returns : goal.returns
unfolding armed refusal fixed_mark reduced colours_of members_of count_of fullest_of
returns c arm s list table =
    record { refusal = λ room. refl; reduced = refl; colours = refl; members = refl; fullest = refl; counts = λ f. refl }
