-- By the cases of the refusal, which is the same with room enough.
use Rattle.std.specs.Prelude.{◌≡◌, ℕ, List, take, drop, refl}
use Rattle.mir.specs.Answers.{Verdict, Passed, Refused, unless}
use Rattle.mir.specs.Questions.{sizes_refusal, refusal_beside}
use Rattle.survey.specs.Beside.{parts, survey_of}
use Rattle.survey.specs.Pair.{some, pair_refusal}
use Rattle.survey.proofs.laws.survey_parts.Goals as goal

first : (values : List ℕ) (v : Verdict) → some (take 2) (unless v values) ≡ unless v (take 2 values)
first values Passed = refl
first values (Refused number index) = refl

others : (values : List ℕ) (v : Verdict) → some (drop 2) (unless v values) ≡ unless v (drop 2 values)
others values Passed = refl
others values (Refused number index) = refl

pub returns : goal.returns
unfolding survey_of refusal_beside sizes_refusal parts
returns c count_regs compress name list table =
    record {
      used = first (parts compress name list) (pair_refusal count_regs list table);
      place = others (parts compress name list) (pair_refusal count_regs list table);
    }
