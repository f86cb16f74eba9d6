-- What a refusal or an answer leaves of a slice, by the verdict and by the report.
-- By the cases of the verdict.
use Prim.Native.Nat.{ℕ}
use mathlib.Core.List.{List}
use mathlib.Core.Path.{◌≡◌, refl}
use Rattle.mir.specs.Answers.{left}
use Rattle.mir.specs.Answers.{Verdict}
use Rattle.mir.specs.Answers.{Passed, Refused}
use Rattle.mir.specs.Answers.{over, Report, answered, refused, unless}

-- what an answer's values, as words, or a refusal, leave of a slice
abbrev pub written : (List ℕ → List ℕ) → Report → List ℕ → List ℕ
written words (answered values) held = over (words values) held
written words (refused number index) held = held

pub left_by : (words : List ℕ → List ℕ) (v : Verdict) (values held : List ℕ) → left v (words values) held ≡ written words (unless v values) held
left_by words Passed values held = refl
left_by words (Refused number index) values held = refl
