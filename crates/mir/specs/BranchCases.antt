-- Public: questions 15 and 16: which reads are refused past a BranchIf and which are not, every source of every kind; which branches
-- have a Label; which question comes first; and which of several Labels with a number is the last.
use Rattle.std.specs.Prelude.{◌≡◌, ℕ, true, List, [], ◌∷◌, map, get_or, set}
use Rattle.mir.specs.Answers.{Verdict}
use Rattle.mir.specs.Answers.{Passed, Refused}
use Rattle.mir.specs.Branches.{label_at}
use Rattle.mir.specs.Folds.{last_below}
use Rattle.mir.specs.LimitCases.{largest, settings}
use Rattle.mir.specs.Questions.{refusal, refusal_beside}
use Rattle.mir.specs.Records.{flat}
use Rattle.mir.specs.Shapes.{row}

-- ---- instructions

abbrev pub const : ℕ → List ℕ
const g = row 9 g 0 0 0 0 0 0

abbrev pub save : ℕ → List ℕ
save g = row 6 g 1 0 0 0 0 0

abbrev pub mov : ℕ → ℕ → List ℕ
mov dst s1 = row 4 dst s1 0 0 0 0 0

abbrev pub plus : ℕ → ℕ → ℕ → List ℕ
plus dst s1 s2 = row 3 0 dst s1 s2 0 0 0

abbrev pub call : List ℕ
call = row 12 7 0 0 0 0 0 0

abbrev pub label : ℕ → List ℕ
label name = row 15 name 0 0 0 0 0 0

abbrev pub branch : ℕ → List ℕ
branch name = row 16 name 0 0 0 0 0 0

abbrev pub branch_if : ℕ → ℕ → List ℕ
branch_if cond name = row 17 cond name 0 0 0 0 0

abbrev pub unknown : List ℕ
unknown = row 21 0 0 0 0 0 0 0

abbrev pub ret : ℕ
ret = 256

-- with five registers
unfoldable pub of : List (List ℕ) → Verdict
of recs = refusal true (settings 5 0) (flat recs) []

-- Gen 4 is written before a BranchIf, Gen 3 after it, and the record stands at index 3; every other register is a named one
unfoldable pub past : List ℕ → Verdict
past rec = of (const 4 ∷ branch_if ret 4294967295 ∷ const 3 ∷ rec ∷ label 4294967295 ∷ [])

-- a register word of the largest record of a kind: Gen 4, and Gen 3; the words at these places
unfoldable pub asked : ℕ → List ℕ → List (List Verdict)
asked kind places = map (λ p. map (λ w. past (set (get_or largest kind []) p w)) (4 ∷ 3 ∷ [])) places

abbrev pub dst : List Verdict
dst = Passed ∷ Passed ∷ []

abbrev pub src : List Verdict
src = Refused 15 3 ∷ Passed ∷ []

-- ---- the cases

-- question 15, for each kind that has registers, and each of its register words
pub record EachSource : Type 0 where
  pub uni : asked 2 (2 ∷ 3 ∷ []) ≡ dst ∷ src ∷ []
  pub bi : asked 3 (2 ∷ 3 ∷ 4 ∷ []) ≡ dst ∷ src ∷ src ∷ []
  pub mov : asked 4 (1 ∷ 2 ∷ []) ≡ dst ∷ src ∷ []
  pub load : asked 5 (1 ∷ []) ≡ dst ∷ []
  pub save : asked 6 (1 ∷ []) ≡ src ∷ []
  pub load_complex : asked 7 (1 ∷ 2 ∷ []) ≡ dst ∷ dst ∷ []
  pub save_complex : asked 8 (1 ∷ 2 ∷ []) ≡ src ∷ src ∷ []
  pub load_const : asked 9 (1 ∷ []) ≡ dst ∷ []
  pub fused : asked 13 (2 ∷ 3 ∷ 4 ∷ 5 ∷ []) ≡ dst ∷ src ∷ src ∷ src ∷ []
  pub if_else : asked 14 (1 ∷ 2 ∷ 3 ∷ []) ≡ dst ∷ src ∷ src ∷ []
  -- the condition of a second BranchIf is a read like any other
  pub branch_if : asked 17 (1 ∷ []) ≡ src ∷ []
  pub load_math : asked 18 (2 ∷ 3 ∷ []) ≡ dst ∷ src ∷ []
  pub load_const_math : asked 19 (2 ∷ 3 ∷ []) ≡ dst ∷ src ∷ []
  pub complex_bi : asked 20 (2 ∷ 3 ∷ 4 ∷ 5 ∷ 6 ∷ 7 ∷ []) ≡ dst ∷ dst ∷ src ∷ src ∷ src ∷ src ∷ []

-- question 15 on lists
pub record PastBranch : Type 0 where
  -- the BranchIf's own read, of what was written just before it, is none
  pub own_read : of (const 0 ∷ branch_if 0 7 ∷ label 7 ∷ []) ≡ Passed
  pub read_again : of (const 0 ∷ branch_if 0 7 ∷ branch_if 0 7 ∷ label 7 ∷ []) ≡ Refused 15 2
  -- a write clears the mark of its register and of no other; a source is read before the destination is written
  pub write_clears : of (const 0 ∷ branch_if ret 7 ∷ const 0 ∷ save 0 ∷ label 7 ∷ []) ≡ Passed
  pub other_write : of (const 0 ∷ const 1 ∷ branch_if ret 7 ∷ const 1 ∷ plus 2 1 0 ∷ label 7 ∷ []) ≡ Refused 15 4
  pub written_late : of (const 0 ∷ branch_if ret 7 ∷ mov 0 0 ∷ label 7 ∷ []) ≡ Refused 15 2
  pub first_static : of (branch_if ret 7 ∷ const 0 ∷ save 0 ∷ label 7 ∷ []) ≡ Passed
  -- each BranchIf marks anew
  pub marked_again : of (const 0 ∷ branch_if ret 7 ∷ const 0 ∷ branch_if 0 7 ∷ save 0 ∷ label 7 ∷ []) ≡ Refused 15 4
  pub first_of_two : of (const 0 ∷ branch_if ret 7 ∷ save 0 ∷ save 0 ∷ label 7 ∷ []) ≡ Refused 15 2
  -- a Branch marks nothing; named registers are not asked; code that nobody reaches is
  pub past_branch : of (const 0 ∷ branch 7 ∷ save 0 ∷ label 7 ∷ []) ≡ Passed
  pub named_register : of (mov ret ret ∷ branch_if ret 7 ∷ save ret ∷ label 7 ∷ []) ≡ Passed
  pub unreachable : of (const 0 ∷ branch_if ret 7 ∷ branch 7 ∷ save 0 ∷ label 7 ∷ []) ≡ Refused 15 3
  -- Label and Call forget: 9 comes first, and what is written then is new
  pub label_forgets : of (const 0 ∷ branch_if ret 7 ∷ label 7 ∷ save 0 ∷ []) ≡ Refused 9 3
  pub call_forgets : of (const 0 ∷ branch_if ret 7 ∷ call ∷ save 0 ∷ label 7 ∷ []) ≡ Refused 9 3
  pub after_label : of (const 0 ∷ branch_if ret 7 ∷ label 7 ∷ const 0 ∷ save 0 ∷ []) ≡ Passed
  -- 8, and 9 of any source, come before 15 in a record
  pub nine_first : of (const 0 ∷ branch_if ret 7 ∷ plus 2 0 1 ∷ label 7 ∷ []) ≡ Refused 9 2
  pub nine_second : of (const 0 ∷ branch_if ret 7 ∷ plus 2 1 0 ∷ label 7 ∷ []) ≡ Refused 9 2
  pub eight_first : of (const 0 ∷ branch_if ret 7 ∷ row 8 0 0 0 4294967295 0 0 0 ∷ label 7 ∷ []) ≡ Refused 8 2
  pub fifteen_first : of (const 0 ∷ branch_if ret 7 ∷ save 0 ∷ save 1 ∷ label 7 ∷ []) ≡ Refused 15 2

-- question 16
pub record ToLabels : Type 0 where
  pub forward : of (branch 7 ∷ label 7 ∷ []) ≡ Passed
  pub backward : of (label 7 ∷ branch 7 ∷ branch_if ret 7 ∷ []) ≡ Passed
  pub to_none : of (label 8 ∷ branch 7 ∷ []) ≡ Refused 16 1
  pub if_to_none : of (label 8 ∷ branch_if ret 7 ∷ []) ≡ Refused 16 1
  pub first_such : of (label 7 ∷ branch 7 ∷ branch 8 ∷ branch_if ret 9 ∷ []) ≡ Refused 16 2
  pub last_record : of (label 0 ∷ branch 0 ∷ branch 4294967295 ∷ []) ≡ Refused 16 2
  -- the number is BranchIf's second word, and no other record's word is a Label's
  pub number_of_if : of (label 256 ∷ label 1 ∷ row 17 256 9 1 0 0 0 0 ∷ []) ≡ Refused 16 2
  pub no_label : of (call ∷ const 4 ∷ branch 7 ∷ []) ≡ Refused 16 2
  pub another_kind : of (row 16 0 0 0 0 0 0 0 ∷ row 0 0 0 0 0 0 0 0 ∷ []) ≡ Refused 16 0
  -- once every record has passed: a later record's no comes before it
  pub five_later : of (branch 7 ∷ unknown ∷ []) ≡ Refused 5 1
  pub fifteen_later : of (branch 7 ∷ const 0 ∷ branch_if ret 8 ∷ save 0 ∷ []) ≡ Refused 15 3
  -- the last of two Labels, which the survey and a run go by
  pub last_of_two : last_below (label_at (flat (label 7 ∷ branch 7 ∷ label 7 ∷ label 8 ∷ [])) 7) 4 ≡ 2 ∷ []
  -- the survey asks neither
  pub not_beside : refusal_beside true 5 (flat (const 0 ∷ branch_if ret 7 ∷ save 0 ∷ [])) [] ≡ Passed

pub record BranchCases : Type 0 where
  pub sources : EachSource
  pub reads : PastBranch
  pub labels : ToLabels
