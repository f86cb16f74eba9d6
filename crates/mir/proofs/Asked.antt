-- What a `?` on a question's answer knows: an answer that passes has no number, and one that is passed on has the number it had.
-- By cases on the answer; every question has a number other than 0.
use Prim.Native.Nat.{ℕ}
use mathlib.Core.Bool.{Bool, true, false}
use mathlib.Core.List.{[], ◌∷◌}
use mathlib.Core.Path.{◌≡◌, refl, sym, ap, ◌∙◌}
use native.Mathlib.Omega.{arith}
use Rattle.std.specs.Prelude.{Result, Ok, Err, IsErrAnd}
use Rattle.mir.specs.declared.refusal.Question.{Question}
use Rattle.mir.specs.declared.refusal.Question.TheVariants.{FewRegisters, FewArgs, Lengths, Room, Kind, Fields, Registers, Partner, Named, Since, Labels}
use Rattle.mir.specs.declared.refusal.Refusal.{Refusal}
use Rattle.mir.specs.Answers.{Verdict, number_of, no_in, verdict_in}
use Rattle.mir.specs.Folds.{first_no, or_else}

-- every question has a number
pub numbered : (q : Question) → number_of q ≡ 0 → ⊥
numbered FewRegisters e = omega arith
numbered FewArgs e = omega arith
numbered Lengths e = omega arith
numbered Room e = omega arith
numbered Kind e = omega arith
numbered Fields e = omega arith
numbered Registers e = omega arith
numbered Partner e = omega arith
numbered Named e = omega arith
numbered Since e = omega arith
numbered Labels e = omega arith

pub asked_ok : {a : Result (Unit {0}) Question} {u : Unit {0}} {n : ℕ} → a ≡ Ok u → no_in a ≡ n → n ≡ 0
asked_ok e h = sym h ∙ ap no_in e

pub asked_err : (r : Result (Unit {0}) Question) {a : Result (Unit {0}) Question} {q : Question} {n : ℕ} → a ≡ Err q → no_in a ≡ n
    → IsErrAnd r (λ y. y ≡ q) → (no_in r ≡ n) × (no_in r ≡ 0 → ⊥)
asked_err (Ok u) e h p = absurd p
asked_err (Err y) e h p = (ap number_of p ∙ (sym (ap no_in e) ∙ h), numbered y)

-- what the exit of a `?` returns, where the error stays as it is
pub passed_on : {T E : Type 0} (r : Result T E) {e : E} → IsErrAnd r (λ y. y ≡ e) → r ≡ Err e
passed_on (Ok x) p = absurd p
passed_on (Err y) p = ap Err p

-- the answer of one question alone
pub one_yes : {number : ℕ} (b : Bool) → (number ≡ 0 → ⊥) → first_no ((number, b) ∷ []) ≡ 0 → b ≡ true
one_yes true some e = refl
one_yes false some e = absurd (some e)

pub one_no : {number : ℕ} (b : Bool) {m : ℕ} → m ≡ first_no ((number, b) ∷ []) → (m ≡ 0 → ⊥) → (b ≡ false) × (m ≡ number)
one_no true e h = absurd (h e)
one_no false e h = (refl, e)

-- questions put to a list, and others after them: a refusal decides, and after a pass the others do
module _ {a : Result (Unit {0}) Refusal} {v : Verdict} (h : verdict_in a ≡ v) (w : Verdict) where
  pub asked_stops : (r : Result (Unit {0}) Refusal) {e : Refusal} → a ≡ Err e → IsErrAnd r (λ y. y ≡ e) → verdict_in r ≡ or_else v w
  asked_stops r is p = rw (passed_on r p, ← h, is) refl

  pub asked_passes : {u : Unit {0}} → a ≡ Ok u → w ≡ or_else v w
  asked_passes is = rw (← h, is) refl
