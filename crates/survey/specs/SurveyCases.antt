-- Public: the mask of a record of each kind, both halves or none, the last of several Labels, and the whole answer at its limits. The masks
-- are written out here, so that a slip in the definitions is refused, even where the code slips in step.
use Rattle.std.specs.Prelude.{◌≡◌, ℕ, true, false, List, [], ◌∷◌, map}
use Rattle.mir.specs.Answers.{Report, answered, refused}
use Rattle.mir.specs.Records.{flat}
use Rattle.mir.specs.Shapes.{row}
use Rattle.survey.specs.Beside.{get_dst, survey_of}

-- ---- one record

-- one record of each kind: its destinations are Gen 1 and, if it has two, Gen 3; every other register is another Gen
abbrev pub each : List (List ℕ)
each =
    row 0 0 0 0 0 0 0 0
    ∷ row 1 0 0 0 0 0 0 0
    ∷ row 2 0 1 5 0 0 0 0
    ∷ row 3 0 1 5 6 0 0 0
    ∷ row 4 1 5 0 0 0 0 0
    ∷ row 5 1 0 7 0 0 0 0
    ∷ row 6 5 0 7 0 0 0 0
    ∷ row 7 1 3 0 7 0 0 0
    ∷ row 8 5 6 0 7 0 0 0
    ∷ row 9 1 7 0 0 0 0 0
    ∷ row 10 2 7 1 1 0 0 0
    ∷ row 11 7 1 1 0 0 0 0
    ∷ row 12 7 6 0 0 0 0 0
    ∷ row 13 0 1 5 6 7 0 0
    ∷ row 14 1 5 6 2 7 0 0
    ∷ row 15 7 0 0 0 0 0 0
    ∷ row 16 7 0 0 0 0 0 0
    ∷ row 17 5 7 1 0 0 0 0
    ∷ row 18 0 1 5 2 7 0 0
    ∷ row 19 0 1 5 7 0 0 0
    ∷ row 20 0 1 3 5 6 7 4
    ∷ []

-- named registers: none; both halves of kinds 7 and 20 or none; the last register's bit; both halves the same, and on each side
-- of bit 32
abbrev pub named : List (List ℕ)
named =
    row 4 256 5 0 0 0 0 0
    ∷ row 17 257 7 0 0 0 0 0
    ∷ row 7 1 256 0 7 0 0 0
    ∷ row 7 259 3 0 7 0 0 0
    ∷ row 20 0 1 258 5 6 7 4
    ∷ row 20 0 259 3 5 6 7 4
    ∷ row 4 63 256 0 0 0 0 0
    ∷ row 7 3 3 0 7 0 0 0
    ∷ row 7 31 32 0 7 0 0 0
    ∷ []

-- ---- a list

-- Labels 7 at 1 and 3, 8 at 4, and 4294967295 at 6; a Branch to 9, which is no Label, and a LoadConst at 5
abbrev pub labels : List ℕ
labels =
    flat
    (row 0 0 0 0 0 0 0 0
    ∷ row 15 7 0 0 0 0 0 0
    ∷ row 16 9 0 0 0 0 0 0
    ∷ row 15 7 0 0 0 0 0 0
    ∷ row 15 8 0 0 0 0 0 0
    ∷ row 9 2 7 0 0 0 0 0
    ∷ row 15 4294967295 0 0 0 0 0 0
    ∷ [])

-- with three registers
abbrev pub of : ℕ → Report
of name = survey_of 3 false name labels []

-- a record of no kind, after Label 7
abbrev pub bad : List ℕ
bad = flat (row 15 7 0 0 0 0 0 0 ∷ row 21 0 0 0 0 0 0 0 ∷ [])

pub record SurveyCases : Type 0 where
  pub kinds : map get_dst each ≡ 0 ∷ 0 ∷ 2 ∷ 2 ∷ 2 ∷ 2 ∷ 0 ∷ 10 ∷ 0 ∷ 2 ∷ 0 ∷ 0 ∷ 0 ∷ 2 ∷ 2 ∷ 0 ∷ 0 ∷ 32 ∷ 2 ∷ 2 ∷ 10 ∷ []
  pub halves : map get_dst named ≡ 0 ∷ 0 ∷ 0 ∷ 0 ∷ 0 ∷ 0 ∷ 9223372036854775808 ∷ 8 ∷ 6442450944 ∷ []
  -- the first record's; the last of two, one alone, the last record's, the largest number, and two that are absent
  pub first : survey_of 0 false 7 (row 15 7 0 0 0 0 0 0) [] ≡ answered (0 ∷ 0 ∷ 0 ∷ [])
  pub last : of 7 ≡ answered (4 ∷ 1 ∷ 3 ∷ [])
  pub only : of 8 ≡ answered (4 ∷ 1 ∷ 4 ∷ [])
  pub largest : of 4294967295 ≡ answered (4 ∷ 1 ∷ 6 ∷ [])
  pub branch_is_none : of 9 ≡ answered (4 ∷ 1 ∷ [])
  pub nop_is_none : of 0 ≡ answered (4 ∷ 1 ∷ [])
  -- every register if compress, also of no records; no register of no records
  pub every : survey_of 3 true 7 labels [] ≡ answered (18446744073709551615 ∷ 64 ∷ 3 ∷ [])
  pub every_of_none : survey_of 0 true 7 [] [] ≡ answered (18446744073709551615 ∷ 64 ∷ [])
  pub none : survey_of 0 false 7 [] [] ≡ answered (0 ∷ 0 ∷ [])
  pub two_records : survey_of 64 false 0 (flat (row 9 63 0 0 0 0 0 0 ∷ row 9 0 0 0 0 0 0 0 ∷ [])) [] ≡ answered (9223372036854775809 ∷ 2 ∷ [])
  -- a refusal takes the place of every value, also where compress is set
  pub refused_1 : survey_of 65 true 7 bad (0 ∷ []) ≡ refused 1 0
  pub refused_3 : survey_of 64 true 7 bad (0 ∷ []) ≡ refused 3 0
  pub refused_5 : survey_of 64 true 7 bad [] ≡ refused 5 1
  pub refused_7 : survey_of 2 false 7 labels [] ≡ refused 7 5
