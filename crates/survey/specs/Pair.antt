-- Public: the original's pair, `used_registers` and `populate_labels`, each with a survey's questions put first: the parts of a survey are
-- what the two give. Its first two values,
-- or its refusal, are the answer of the one, and the others, or its refusal, that of the other.
use Rattle.std.specs.Prelude.{◌≡◌, ℕ, Bool, List, [], ◌∷◌, length, take, drop}
use Rattle.std.specs.Int.Count.{ones_in}
use Rattle.mir.specs.Answers.{Verdict, Report, answered, refused, unless}
use Rattle.mir.specs.Branches.{label_at}
use Rattle.mir.specs.Folds.{first_no, refused_at, or_else, last_below}
use Rattle.mir.specs.Questions.{few_registers, well_sized, shape_refusal}
use Rattle.mir.specs.Records.{max_regs, records}
use Rattle.survey.specs.Beside.{used_mask, survey_of}

-- both put questions 1, 3 and 5 to 7
abbrev pub pair_refusal : ℕ → List ℕ → List ℕ → Verdict
pair_refusal count_regs list table =
    or_else
    (refused_at (first_no ((1, few_registers count_regs) ∷ (3, well_sized (length list) (length table)) ∷ [])) 0)
    (shape_refusal table count_regs list)

-- the mask, and how many registers it names
abbrev pub used_registers : ℕ → Bool → List ℕ → List ℕ → Report
used_registers count_regs compress list table =
    let mask = used_mask compress list in
    unless (pair_refusal count_regs list table) (mask ∷ ones_in max_regs mask ∷ [])

-- the index of the last Label with the number, or no value where it is absent
abbrev pub populate_labels : ℕ → ℕ → List ℕ → List ℕ → Report
populate_labels count_regs name list table =
    unless (pair_refusal count_regs list table) (last_below (label_at list name) (records list))

-- some of an answer's values; a refusal stays as it is
abbrev pub some : (List ℕ → List ℕ) → Report → Report
some of (answered values) = answered (of values)
some of (refused number index) = refused number index

pub record SurveyPartsOf (count_regs : ℕ) (compress : Bool) (name : ℕ) (list table : List ℕ) : Type 0 where
  pub used : some (take 2) (survey_of count_regs compress name list table) ≡ used_registers count_regs compress list table
  pub place : some (drop 2) (survey_of count_regs compress name list table) ≡ populate_labels count_regs name list table

abbrev pub SurveyParts : Type 0
SurveyParts = (count_regs : ℕ) (compress : Bool) (name : ℕ) (list table : List ℕ) → SurveyPartsOf count_regs compress name list table
