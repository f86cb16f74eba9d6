-- Public: the table of ten, A to J: the reduced list, or number and index.
use Rattle.std.specs.Prelude.{◌≡◌, ℕ, true, false, List, [], ◌++◌}
use Rattle.mir.specs.declared.config.Settings.{Settings}
use Rattle.mir.specs.Answers.{Report, answered, refused, unless}
use Rattle.mir.specs.Questions.{refusal}
use Rattle.passes.specs.Contract.{reduced}
use Rattle.passes.specs.Instructions.{load_const, load, save, plus, mov, label, stack, mem}

-- with n registers, args 0, not complex, and no table: the reduced list, or the refusal
unfoldable pub of : ℕ → List ℕ → Report
of n list = unless (refusal true settings list []) (reduced settings list [])
  where
    settings : Settings
    settings = record { count_regs = n; args = 0; complex = false; arm = false; compress = false }

-- F: a word goes to Stack and back
unfoldable pub case_f : List ℕ
case_f =
    load_const 0 0
    ++ (save 0 stack 20 ++ (load_const 0 1 ++ (save 0 mem 1 ++ (load 0 stack 20 ++ save 0 mem 0))))

pub record TenCases : Type 0 where
  pub a : of 0 [] ≡ answered []
  pub b :
      of 1 (load_const 0 5 ++ (save 0 mem 3 ++ (load 0 mem 3 ++ save 0 stack 16))) ≡ answered (load_const 0 5 ++ save 0 mem 3)
  pub c :
      of 1 (load_const 0 5 ++ (save 0 mem 3 ++ (load 0 mem 3 ++ save 0 stack 15)))
      ≡ answered (load_const 0 5 ++ (save 0 mem 3 ++ save 0 stack 15))
  pub d :
      of 2 (load 0 mem 0 ++ (load 1 mem 0 ++ (plus 0 0 1 ++ save 0 mem 1)))
      ≡ answered (load 0 mem 0 ++ (plus 1 0 0 ++ save 1 mem 1))
  pub e : of 2 (load_const 0 1 ++ (mov 1 0 ++ save 1 mem 0)) ≡ answered (load_const 0 1 ++ save 0 mem 0)
  pub f : of 1 case_f ≡ answered case_f
  pub g : of 2 (load_const 0 0 ++ (label 7 ++ save 0 mem 0)) ≡ refused 9 2
  pub h : of 2 (load_const 2 0) ≡ refused 7 0
  pub i : of 65 [] ≡ refused 1 0
  pub j : of 2 (mov 1 0) ≡ refused 9 0
