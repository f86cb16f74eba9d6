-- Public: the words that the definitions are put in: each of, the first no, the last such.
use Rattle.std.specs.Prelude.{ℕ, zero, suc, Bool, true, false, cond, ◌&&◌, ◌||◌, List, [], ◌∷◌}
use Rattle.mir.specs.Answers.{Verdict}
use Rattle.mir.specs.Answers.{Passed, Refused}

-- p holds of each number below n
unfoldable pub all_below : ℕ → (ℕ → Bool) → Bool
all_below zero p = true
all_below (suc n) p = all_below n p && p n

-- p holds of some number below n
unfoldable pub any_below : ℕ → (ℕ → Bool) → Bool
any_below zero p = false
any_below (suc n) p = any_below n p || p n

-- the number of the first question that is answered with no, or 0
abbrev pub first_no : List (ℕ × Bool) → ℕ
first_no [] = 0
first_no (q ∷ qs) = cond q.1 (first_no qs) q.0

-- question `number` answered with no at record `index`; 0 is no question
abbrev pub refused_at : ℕ → ℕ → Verdict
refused_at zero index = Passed
refused_at (suc number) index = Refused (suc number) index

-- the first refusal of the two
abbrev pub or_else : Verdict → Verdict → Verdict
or_else Passed v = v
or_else (Refused number index) v = Refused number index

-- record by record, the first no decides: `by i` is what record i is refused by, or 0
unfoldable pub first_refusal : (ℕ → ℕ) → ℕ → Verdict
first_refusal by zero = Passed
first_refusal by (suc n) = or_else (first_refusal by n) (refused_at (by n) n)

-- the last number below n for which p holds, if there is one
unfoldable pub last_below : (ℕ → Bool) → ℕ → List ℕ
last_below p zero = []
last_below p (suc n) = cond (p n) (n ∷ []) (last_below p n)
