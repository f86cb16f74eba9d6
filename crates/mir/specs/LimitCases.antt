-- Public: the questions' limits. Of each kind, each word's largest value passes and one more is refused; of each register word, the Gen
-- numbers at each limit; each question's number and index; and which question comes first. The ranges are written out a second time
-- here, so that a slip in the definitions is refused, even where the code slips in step.
use Rattle.std.specs.Prelude.{◌≡◌, ℕ, suc, Bool, true, false, List, [], ◌∷◌, ◌++◌, map, length, get_or, set, replicate}
use Rattle.mir.specs.declared.config.Settings.{Settings}
use Rattle.mir.specs.Answers.{Verdict}
use Rattle.mir.specs.Answers.{Passed, Refused}
use Rattle.mir.specs.Folds.{or_else}
use Rattle.mir.specs.Questions.{refusal, refusal_beside, record_refusal, branch_refusal}
use Rattle.mir.specs.Records.{flat}
use Rattle.mir.specs.Shapes.{row}

-- ---- one record

-- 5 registers, of which Gen 4 has a static, and three pairs, of one space each; the record stands at index 2, and after it the
-- Labels that the branches among these records go to
unfoldable pub of : List ℕ → Verdict
of rec =
    refusal true (record { count_regs = 5; args = 0; complex = false; arm = false; compress = false })
    (flat (row 9 4 0 0 0 0 0 0 ∷ row 0 0 0 0 0 0 0 0 ∷ rec ∷ row 15 200 0 0 0 0 0 0 ∷ row 15 4294967295 0 0 0 0 0 0 ∷ []))
    (0 ∷ 4294967295 ∷ 1 ∷ 4294967295 ∷ 2 ∷ 4294967295 ∷ [])

-- one record of each kind: every word as large as it may be, registers being named ones
abbrev pub largest : List (List ℕ)
largest =
    row 0 0 0 0 0 0 0 0
    ∷ row 1 0 0 0 0 0 0 0
    ∷ row 2 19 259 259 0 0 0 0
    ∷ row 3 14 259 259 259 0 0 0
    ∷ row 4 259 259 0 0 0 0 0
    ∷ row 5 259 2 4294967295 0 0 0 0
    ∷ row 6 259 2 4294967295 0 0 0 0
    ∷ row 7 259 259 2 4294967294 0 0 0
    ∷ row 8 259 259 2 4294967294 0 0 0
    ∷ row 9 259 4294967295 0 0 0 0 0
    ∷ row 10 1 2 1 1 0 0 0
    ∷ row 11 255 1 1 0 0 0 0
    ∷ row 12 4294967295 4294967295 0 0 0 0 0
    ∷ row 13 3 259 259 259 259 0 0
    ∷ row 14 259 259 259 2 4294967295 0 0
    ∷ row 15 4294967295 0 0 0 0 0 0
    ∷ row 16 4294967295 0 0 0 0 0 0
    ∷ row 17 259 4294967295 1 0 0 0 0
    ∷ row 18 3 259 259 2 4294967295 0 0
    ∷ row 19 3 259 259 4294967295 0 0 0
    ∷ row 20 3 259 259 259 259 259 259
    ∷ []

-- each of the words 1 to 7 larger by one
unfoldable pub one_more : List ℕ → List Verdict
one_more rec = map (λ p. of (set rec p (suc (get_or rec p 0)))) (1 ∷ 2 ∷ 3 ∷ 4 ∷ 5 ∷ 6 ∷ 7 ∷ [])

abbrev pub sixes : List Verdict
sixes = replicate 7 (Refused 6 2)

-- in kinds 7 and 8 the index, word 4, is refused by 8 first
abbrev pub eight : List Verdict
eight =
    Refused 6 2 ∷ Refused 6 2 ∷ Refused 6 2 ∷ Refused 8 2 ∷ Refused 6 2 ∷ Refused 6 2 ∷ Refused 6 2 ∷ []

-- a register word of the largest record of a kind: a Gen without a static, the last one of the 5, one more, the last Gen,
-- and the first named register; the words at these places
unfoldable pub as_gens : ℕ → List ℕ → List (List Verdict)
as_gens kind places = map (λ p. map (λ w. of (set (get_or largest kind []) p w)) (3 ∷ 4 ∷ 5 ∷ 255 ∷ 256 ∷ [])) places

abbrev pub dst : List Verdict
dst = Passed ∷ Passed ∷ Refused 7 2 ∷ Refused 7 2 ∷ Passed ∷ []

abbrev pub src : List Verdict
src = Refused 9 2 ∷ Passed ∷ Refused 7 2 ∷ Refused 7 2 ∷ Passed ∷ []

-- records with a word that is a Gen's number and no register
abbrev pub smalls : List (List ℕ)
smalls =
    row 5 259 1 200 0 0 0 0
    ∷ row 6 259 1 200 0 0 0 0
    ∷ row 7 259 259 1 200 0 0 0
    ∷ row 8 259 259 1 200 0 0 0
    ∷ row 9 259 200 0 0 0 0 0
    ∷ row 11 200 1 1 0 0 0 0
    ∷ row 12 200 200 0 0 0 0 0
    ∷ row 14 259 259 259 1 200 0 0
    ∷ row 15 200 0 0 0 0 0 0
    ∷ row 16 200 0 0 0 0 0 0
    ∷ row 17 259 200 1 0 0 0 0
    ∷ row 18 3 259 259 1 200 0 0
    ∷ row 19 3 259 259 200 0 0 0
    ∷ []

-- ---- a list

abbrev pub settings : ℕ → ℕ → Settings
settings count_regs args = record { count_regs = count_regs; args = args; complex = false; arm = false; compress = false }

-- 64 registers and 65,535 args pass; `room` is the answer to question 4
abbrev pub most : Bool → List ℕ → List ℕ → Verdict
most room = refusal room (settings 64 65535)

-- the record stands after a Nop, and a record of no kind after it; the same for what stands beside the passes
abbrev pub three : List ℕ → List ℕ
three rec = flat (row 0 0 0 0 0 0 0 0 ∷ rec ∷ row 21 0 0 0 0 0 0 0 ∷ [])

abbrev pub second : List ℕ → Verdict
second rec = refusal true (settings 5 0) (three rec) []

abbrev pub beside : List ℕ → Verdict
beside rec = refusal_beside true 5 (three rec) []

-- a record of no kind and a word more
abbrev pub ragged : List ℕ
ragged = row 21 0 0 0 0 0 0 0 ++ 0 ∷ []

-- a table whose first pair is of no space
abbrev pub spaceless : List ℕ
spaceless = 3 ∷ 0 ∷ 2 ∷ 0 ∷ []

-- ---- the cases

-- questions 5, 6 and 8, for each kind and each of its words
pub record WordLimits : Type 0 where
  pub passing : map of largest ≡ replicate 21 Passed
  pub above : map one_more largest ≡ replicate 7 sixes ++ (eight ∷ eight ∷ replicate 12 sixes)
  pub no_kind : of (row 21 0 0 0 0 0 0 0) ≡ Refused 5 2
  -- LoadArgs: first + count is at most the table's pairs, and only the pairs that it names are looked at
  pub none_named : of (row 10 3 0 0 0 0 0 0) ≡ Passed
  pub none_past : of (row 10 4 0 0 0 0 0 0) ≡ Refused 6 2
  pub bad_pair : most true (row 10 0 2 0 0 0 0 0) spaceless ≡ Refused 6 0
  pub good_pair : most true (row 10 1 1 0 0 0 0 0) spaceless ≡ Passed

-- questions 7 and 9, for each kind and each of its register words
pub record RegisterLimits : Type 0 where
  pub uni : as_gens 2 (2 ∷ 3 ∷ []) ≡ dst ∷ src ∷ []
  pub bi : as_gens 3 (2 ∷ 3 ∷ 4 ∷ []) ≡ dst ∷ src ∷ src ∷ []
  pub mov : as_gens 4 (1 ∷ 2 ∷ []) ≡ dst ∷ src ∷ []
  pub load : as_gens 5 (1 ∷ []) ≡ dst ∷ []
  pub save : as_gens 6 (1 ∷ []) ≡ src ∷ []
  pub load_complex : as_gens 7 (1 ∷ 2 ∷ []) ≡ dst ∷ dst ∷ []
  pub save_complex : as_gens 8 (1 ∷ 2 ∷ []) ≡ src ∷ src ∷ []
  pub load_const : as_gens 9 (1 ∷ []) ≡ dst ∷ []
  pub fused : as_gens 13 (2 ∷ 3 ∷ 4 ∷ 5 ∷ []) ≡ dst ∷ src ∷ src ∷ src ∷ []
  pub if_else : as_gens 14 (1 ∷ 2 ∷ 3 ∷ []) ≡ dst ∷ src ∷ src ∷ []
  pub branch_if : as_gens 17 (1 ∷ []) ≡ src ∷ []
  pub load_math : as_gens 18 (2 ∷ 3 ∷ []) ≡ dst ∷ src ∷ []
  pub load_const_math : as_gens 19 (2 ∷ 3 ∷ []) ≡ dst ∷ src ∷ []
  pub complex_bi : as_gens 20 (2 ∷ 3 ∷ 4 ∷ 5 ∷ 6 ∷ 7 ∷ []) ≡ dst ∷ dst ∷ src ∷ src ∷ src ∷ src ∷ []
  -- no other word is taken for a register
  pub no_register : map of smalls ≡ replicate 13 Passed

-- each question's number and index: what is refused here would be refused by each later question too
pub record ListLimits : Type 0 where
  pub passing : most true [] [] ≡ Passed
  pub one : refusal false (settings 65 65536) ragged [] ≡ Refused 1 0
  pub two : refusal false (settings 64 65536) ragged [] ≡ Refused 2 0
  pub three_list : most false ragged [] ≡ Refused 3 0
  pub three_table : most false (row 21 0 0 0 0 0 0 0) (0 ∷ []) ≡ Refused 3 0
  pub longest : (list table : List ℕ) → length list ≡ 524288 → length table ≡ 65536 → most true list table ≡ or_else (record_refusal table 64 list) (branch_refusal list)
  pub list_too_long : (list table : List ℕ) → length list ≡ 524296 → most false list table ≡ Refused 3 0
  pub table_too_long : (list table : List ℕ) → length table ≡ 65538 → most false list table ≡ Refused 3 0
  pub four : most false (row 21 0 0 0 0 0 0 0) [] ≡ Refused 4 0
  pub five : second (row 21 1 1 1 1 1 1 1) ≡ Refused 5 1
  pub six : second (row 8 5 3 0 4294967295 1 0 0) ≡ Refused 6 1
  pub seven : second (row 8 5 3 0 4294967295 0 0 0) ≡ Refused 7 1
  pub eight : second (row 8 3 3 0 4294967295 0 0 0) ≡ Refused 8 1
  pub nine : second (row 8 3 3 0 4294967294 0 0 0) ≡ Refused 9 1
  pub later : second (row 8 259 259 0 4294967294 0 0 0) ≡ Refused 5 2
  -- of 64 registers the last one: written, read after it was written, and read before; the Gen after it, and the last Gen
  pub written_63 : most true (row 9 63 0 0 0 0 0 0) [] ≡ Passed
  pub read_63 : most true (flat (row 9 63 0 0 0 0 0 0 ∷ row 6 63 1 0 0 0 0 0 ∷ [])) [] ≡ Passed
  pub unset_63 : most true (flat (row 9 62 0 0 0 0 0 0 ∷ row 6 63 1 0 0 0 0 0 ∷ [])) [] ≡ Refused 9 1
  pub gen_64 : most true (row 9 64 0 0 0 0 0 0) [] ≡ Refused 7 0
  pub gen_255 : most true (row 9 255 0 0 0 0 0 0) [] ≡ Refused 7 0
  -- of a survey: 1, 3, 4 and 5 to 7 alone
  pub one_beside : refusal_beside false 65 ragged [] ≡ Refused 1 0
  pub three_beside : refusal_beside false 64 ragged [] ≡ Refused 3 0
  pub three_table_beside : refusal_beside false 64 (row 21 0 0 0 0 0 0 0) (0 ∷ []) ≡ Refused 3 0
  pub four_beside : refusal_beside false 64 (row 21 0 0 0 0 0 0 0) [] ≡ Refused 4 0
  pub passing_beside : refusal_beside true 64 [] [] ≡ Passed
  pub five_beside : beside (row 21 1 1 1 1 1 1 1) ≡ Refused 5 1
  pub six_beside : beside (row 8 5 3 0 4294967295 1 0 0) ≡ Refused 6 1
  pub seven_beside : beside (row 8 5 3 0 4294967295 0 0 0) ≡ Refused 7 1
  pub later_beside : beside (row 8 3 3 0 4294967295 0 0 0) ≡ Refused 5 2

pub record LimitCases : Type 0 where
  pub words : WordLimits
  pub registers : RegisterLimits
  pub lists : ListLimits
