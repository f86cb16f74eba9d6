-- Public: the machine with branches on small lists: after how many steps each is where, and with what; a loop that runs three times and
-- what it is reduced to; which kinds are covered; and lists that `RunsKeepUp` tells apart. In the runs values are numbers,
-- Uni adds one, and a BranchIf is taken below three, with is_else from three on.
use Rattle.std.specs.Prelude.{◌≡◌, ℕ, ◌+◌, Bool, true, false, cond, not, List, [], ◌∷◌, map, get_or, eqb, ltb}
use Rattle.mir.specs.declared.config.Settings.{Settings}
use Rattle.mir.specs.Answers.{answered, unless}
use Rattle.mir.specs.Questions.{refusal}
use Rattle.mir.specs.Records.{flat}
use Rattle.passes.specs.Contract.{reduced}
use Rattle.passes.specs.Instructions.{mem, ret, load_const, load, save, label, nop, end, uni, branch, branch_if, call}
use Rattle.passes.specs.Machine.{Meaning, State, Point, ended, steps_to, is_covered, AllCovered, RunsKeepUp}
use Rattle.passes.specs.MachineCases.{kinds}

-- ---- where a run is

-- each Gen register starts with 0, each named one and each cell with 9; constant k is k
abbrev pub numbers : Bool → State ℕ
numbers over = record { reg = λ r. cond (ltb r 256) 0 9; cell = λ p i. 9; const = λ k. k; over = over }

abbrev pub adding : Meaning ℕ
adding =
    record {
      uni = λ op a. a + 1;
      bi = λ op a b. a + b;
      fused = λ op a b c. a;
      complex_x = λ op a b c d. a;
      complex_y = λ op a b c d. a;
      select = λ c a b. a;
      taken = λ c e. cond (eqb e 0) (ltb c 3) (not (ltb c 3));
    }

-- whether it has ended, its record, and the values of Gen 0, Ret and Mem 0
unfoldable pub shown : List ℕ → Point ℕ → List ℕ
shown list p = cond (ended list p) 1 0 ∷ p.at ∷ p.state.reg 0 ∷ p.state.reg ret ∷ p.state.cell mem 0 ∷ []

unfoldable pub after : List (List ℕ) → ℕ → List ℕ
after recs n = shown (flat recs) (steps_to adding (flat recs) (numbers false) n)

-- Mem 0 counts to three
unfoldable pub thrice : List (List ℕ)
thrice =
    load_const 0 0 ∷ save 0 mem 0 ∷ label 7 ∷ load 0 mem 0 ∷ nop ∷ uni 0 0 0 ∷ save 0 mem 0 ∷ branch_if 0 7 0 ∷ end ∷ uni 0 ret ret ∷ []

unfoldable pub thrice_reduced : List (List ℕ)
thrice_reduced =
    load_const 0 0 ∷ save 0 mem 0 ∷ label 7 ∷ load 0 mem 0 ∷ uni 0 1 0 ∷ save 1 mem 0 ∷ branch_if 1 7 0 ∷ end ∷ uni 0 ret ret ∷ []

-- two registers, no args
abbrev pub two : Settings
two = record { count_regs = 2; args = 0; complex = false; arm = false; compress = false }

pub record BranchRuns : Type 0 where
  -- no record, and a run that is over before its first step
  pub no_record : after [] 0 ≡ 1 ∷ 0 ∷ 0 ∷ 9 ∷ 9 ∷ []
  pub over_first : shown (flat (end ∷ [])) (steps_to adding (flat (end ∷ [])) (numbers true) 0) ≡ 1 ∷ 0 ∷ 0 ∷ 9 ∷ 9 ∷ []
  -- Nop, Label and End are a step each; past End a run stays, and so it does past the last record
  pub one_step : map (after (nop ∷ label 7 ∷ end ∷ nop ∷ [])) (0 ∷ 1 ∷ 2 ∷ 3 ∷ 4 ∷ [])
      ≡ (0 ∷ 0 ∷ 0 ∷ 9 ∷ 9 ∷ [])
      ∷ (0 ∷ 1 ∷ 0 ∷ 9 ∷ 9 ∷ [])
      ∷ (0 ∷ 2 ∷ 0 ∷ 9 ∷ 9 ∷ [])
      ∷ (1 ∷ 3 ∷ 0 ∷ 9 ∷ 9 ∷ [])
      ∷ (1 ∷ 3 ∷ 0 ∷ 9 ∷ 9 ∷ [])
      ∷ []
  pub past_last : map (after (nop ∷ uni 0 ret 0 ∷ [])) (1 ∷ 2 ∷ 3 ∷ []) ≡ (0 ∷ 1 ∷ 0 ∷ 9 ∷ 9 ∷ []) ∷ (1 ∷ 2 ∷ 0 ∷ 1 ∷ 9 ∷ []) ∷ (1 ∷ 2 ∷ 0 ∷ 1 ∷ 9 ∷ []) ∷ []
  -- a Branch goes to the last of three Labels, forward and backward, and what it passes over has no effect
  pub forward : map (after (branch 7 ∷ label 7 ∷ uni 0 0 0 ∷ label 7 ∷ label 8 ∷ label 7 ∷ uni 0 ret 0 ∷ [])) (1 ∷ 2 ∷ 3 ∷ [])
      ≡ (0 ∷ 5 ∷ 0 ∷ 9 ∷ 9 ∷ []) ∷ (0 ∷ 6 ∷ 0 ∷ 9 ∷ 9 ∷ []) ∷ (1 ∷ 7 ∷ 0 ∷ 1 ∷ 9 ∷ []) ∷ []
  pub backward : map (after (label 7 ∷ label 7 ∷ uni 0 0 0 ∷ branch 7 ∷ [])) (3 ∷ 4 ∷ 5 ∷ 6 ∷ 7 ∷ [])
      ≡ (0 ∷ 3 ∷ 1 ∷ 9 ∷ 9 ∷ [])
      ∷ (0 ∷ 1 ∷ 1 ∷ 9 ∷ 9 ∷ [])
      ∷ (0 ∷ 2 ∷ 1 ∷ 9 ∷ 9 ∷ [])
      ∷ (0 ∷ 3 ∷ 2 ∷ 9 ∷ 9 ∷ [])
      ∷ (0 ∷ 1 ∷ 2 ∷ 9 ∷ 9 ∷ [])
      ∷ []
  -- a BranchIf, by the condition's value and is_else: taken, and not
  pub if_small : after (branch_if 0 7 0 ∷ uni 0 0 0 ∷ label 7 ∷ []) 1 ≡ 0 ∷ 2 ∷ 0 ∷ 9 ∷ 9 ∷ []
  pub if_large : after (branch_if ret 7 0 ∷ uni 0 0 0 ∷ label 7 ∷ []) 1 ≡ 0 ∷ 1 ∷ 0 ∷ 9 ∷ 9 ∷ []
  pub else_small : after (branch_if 0 7 1 ∷ uni 0 0 0 ∷ label 7 ∷ []) 1 ≡ 0 ∷ 1 ∷ 0 ∷ 9 ∷ 9 ∷ []
  pub else_large : after (branch_if ret 7 1 ∷ uni 0 0 0 ∷ label 7 ∷ []) 1 ≡ 0 ∷ 2 ∷ 0 ∷ 9 ∷ 9 ∷ []
  -- three times round: 2 steps before the loop, 6 in each round, and End; 5 in each round without the Nop
  pub not_yet : after thrice 20 ≡ 0 ∷ 8 ∷ 3 ∷ 9 ∷ 3 ∷ []
  pub three_times : after thrice 21 ≡ 1 ∷ 9 ∷ 3 ∷ 9 ∷ 3 ∷ []
  pub is_reduced : unless (refusal true two (flat thrice) []) (reduced two (flat thrice) []) ≡ answered (flat thrice_reduced)
  pub reduced_not_yet : get_or (after thrice_reduced 17) 0 9 ≡ 0
  pub reduced_three_times : after thrice_reduced 18 ≡ 1 ∷ 8 ∷ 2 ∷ 9 ∷ 3 ∷ []

-- ---- which kinds are covered

pub record CoveredCases : Type 0 where
  pub of_kinds :
      map is_covered kinds
      ≡ true ∷ true ∷ true ∷ true ∷ true ∷ true ∷ true ∷ true ∷ true ∷ true ∷ false ∷ false ∷ false ∷ true ∷ true ∷ true ∷ true ∷ true
      ∷ true ∷ true ∷ true ∷ false ∷ []
  pub every : AllCovered (flat (label 7 ∷ branch 7 ∷ branch_if 0 7 0 ∷ end ∷ []))
  pub not_every : AllCovered (flat (label 7 ∷ nop ∷ call 7 0 ∷ [])) → ⊥

-- ---- lists that are told apart

pub record BranchesToldFor (s : Settings) : Type 0 where
  -- one step more than the other; no end at all; another word; another answer of the branch
  pub by_a_step : RunsKeepUp s (flat []) (flat (nop ∷ [])) → ⊥
  pub by_no_end : RunsKeepUp s (flat (end ∷ [])) (flat (label 7 ∷ branch 7 ∷ [])) → ⊥
  pub by_word : RunsKeepUp s (flat (uni 1 ret 0 ∷ [])) (flat (uni 2 ret 0 ∷ [])) → ⊥
  pub by_else : RunsKeepUp s (flat (branch_if 0 7 0 ∷ uni 1 ret 0 ∷ label 7 ∷ [])) (flat (branch_if 0 7 1 ∷ uni 1 ret 0 ∷ label 7 ∷ [])) → ⊥

abbrev pub BranchesTold : Type 0
BranchesTold = (s : Settings) → BranchesToldFor s
