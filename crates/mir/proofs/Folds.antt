-- `all_below`, `any_below` and `first_refusal` as a loop meets them: nothing passed, one more, the first that fails, the end.
-- By induction on the count; the code's `n + 1` is the definitions' `suc n`.
use Prim.Native.Nat.{ℕ, zero, suc, ◌+◌, ◌<◌, ◌≤◌}
use mathlib.Core.Bool.{Bool, true, false, not, ◌&&◌, ◌||◌, and-false, and-true, and_assoc, or-true, or-false}
use mathlib.Core.List.{List, [], ◌∷◌, ◌++◌}
use mathlib.Core.Logic.{◌⊎◌, inl, inr, ⊎_elim}
use mathlib.Core.Path.{◌≡◌, refl, sym, ◌∙◌}
use native.Mathlib.Nat.{zero-add}
use native.Mathlib.Numerals.{add-one}
use native.Mathlib.Omega.{arith}
use native.Mathlib.Decide.{dec_lt}
use lib.ListN.{length, get_or, take, drop, length-drop}
use lib.Seq.{take-suc, take_all, get_or-drop}
use borrow.Author.Tests.{not-true, not-false}
use Rattle.mir.specs.Answers.{Verdict}
use Rattle.mir.specs.Answers.{Passed, Refused}
use Rattle.std.specs.List.{list_all}
use Rattle.mir.specs.Folds.{all_below, any_below, refused_at, or_else, first_refusal}

-- n < suc m: below m, or m itself
pub below_suc : {n m : ℕ} → n < suc m → (n < m) ⊎ (n ≡ m)
below_suc {n} {m} h = go (dec_lt n m)
  where
    go : Dec (n < m) → (n < m) ⊎ (n ≡ m)
    go (yes l) = inl l
    go (no g) = inr (omega (arith, g))

module _ (p : ℕ → Bool) where
  pub all_each : (n : ℕ) → ((j : ℕ) → j < n → p j ≡ true) → all_below n p ≡ true
  unfolding all_below
  all_each zero h = refl
  all_each (suc n) h = rw (all_each n (λ j l. h j (omega arith)), h n (omega arith))

  all_fails : (n j : ℕ) → j < n → p j ≡ false → all_below n p ≡ false
  unfolding all_below
  all_fails zero j l h = absurd (omega arith)
  all_fails (suc n) j l h =
      ⊎_elim (λ (k : j < n). rw (all_fails n j k h)) (λ (e : j ≡ n). rw (← e, h) (and-false (all_below j p)))
      (below_suc l)

  pub all_at : (n j : ℕ) → all_below n p ≡ true → j < n → p j ≡ true
  all_at n j a l = go (p j) refl
    where
      go : (b : Bool) → p j ≡ b → b ≡ true
      go true e = refl
      go false e = cc (all_fails n j l e)

-- a walk up to n that stops at the first number for which p fails: p holds of each number below j
pub record Holds (p : ℕ → Bool) (n j : ℕ) : Type 0 where
  pub within : j ≤ n
  pub passed : all_below j p ≡ true

pub holds_none : {p : ℕ → Bool} {n : ℕ} → Holds p n 0
unfolding all_below
holds_none = record { within = omega arith; passed = refl }

pub holds_more : {p : ℕ → Bool} {n j : ℕ} → Holds p n j → j < n → p j ≡ true → Holds p n (j + 1)
unfolding all_below
holds_more h l e = record { within = omega arith; passed = rw (add-one, h.passed, e) }

pub holds_stops : {p : ℕ → Bool} {n j : ℕ} → Holds p n j → j < n → p j ≡ false → false ≡ all_below n p
holds_stops {p} {n} {j} h l e = sym (all_fails p n j l e)

pub holds_ends : {p : ℕ → Bool} {n j : ℕ} → Holds p n j → n ≤ j → true ≡ all_below n p
holds_ends {p} {n} {j} h l =
    let e : j ≡ n = omega arith in
    sym (rw e at h.passed)

module _ (p : ℕ → Bool) where
  pub all_append : (xs ys : List ℕ) → list_all p (xs ++ ys) ≡ (list_all p xs && list_all p ys)
  all_append [] ys = refl
  all_append (x ∷ xs) ys = rw (all_append xs ys) (sym (and_assoc (p x) (list_all p xs) (list_all p ys)))

  -- p holds of each of the `count` words from `from` on
  pub all_words : (ws : List ℕ) (from count : ℕ) → from + count ≤ length ws
      → list_all p (take count (drop from ws)) ≡ all_below count (λ j. p (get_or ws (from + j) 0))
  unfolding all_below
  all_words ws from zero h = refl
  all_words ws from (suc n) h =
      let l : n < length (drop from ws) = simp length-drop (omega arith) in
      rw (
        take-suc (drop from ws) n 0 l,
        all_append (take n (drop from ws)) (get_or (drop from ws) n 0 ∷ []),
        all_words ws from n (omega arith),
        and-true (p (get_or (drop from ws) n 0)),
        get_or-drop from ws n 0,
      )

  pub all_each_word : (ws : List ℕ) → list_all p ws ≡ all_below (length ws) (λ j. p (get_or ws j 0))
  all_each_word ws = simp zero-add at (rw (take_all (length ws) ws (omega arith)) at (all_words ws 0 (length ws) (omega arith)))

module _ (p : ℕ → Bool) where
  pub any_some : (n j : ℕ) → j < n → p j ≡ true → any_below n p ≡ true
  unfolding any_below
  any_some zero j l h = absurd (omega arith)
  any_some (suc n) j l h =
      ⊎_elim (λ (k : j < n). rw (any_some n j k h)) (λ (e : j ≡ n). rw (← e, h) (or-true (any_below j p)))
      (below_suc l)

  pub any_none : (n : ℕ) → ((j : ℕ) → j < n → p j ≡ false) → any_below n p ≡ false
  unfolding any_below
  any_none zero h = refl
  any_none (suc n) h = rw (any_none n (λ j l. h j (omega arith)), h n (omega arith))

module _ (p q : ℕ → Bool) where
  pub any_same : (n : ℕ) → ((j : ℕ) → j < n → p j ≡ q j) → any_below n p ≡ any_below n q
  unfolding any_below
  any_same zero h = refl
  any_same (suc n) h = rw (any_same n (λ j l. h j (omega arith)), h n (omega arith))

  pub any_kept : (n : ℕ) → ((j : ℕ) → j < n → p j ≡ true → q j ≡ true) → any_below n p ≡ true → any_below n q ≡ true
  unfolding any_below
  any_kept zero h a = a
  any_kept (suc n) h a = go (p n) refl a (any_kept n (λ j l. h j (omega arith)))
    where
      go : (b : Bool) → p n ≡ b → (any_below n p || b) ≡ true → (any_below n p ≡ true → any_below n q ≡ true) → (any_below n q || q n) ≡ true
      go true e t up = rw (h n (omega arith) e) (or-true (any_below n q))
      go false e t up = rw (up (sym (or-false (any_below n p)) ∙ t))

-- a test that a function answers, and the branch on its answer
pub answered_no : {r b : Bool} → r ≡ b → not r ≡ true → b ≡ false
answered_no e h = sym e ∙ not-true _ h

pub answered_yes : {r b : Bool} → r ≡ b → not r ≡ false → b ≡ true
answered_yes e h = sym e ∙ not-false _ h

-- ---- record by record

pub both_passed : (v w : Verdict) → or_else v w ≡ Passed → (v ≡ Passed) × (w ≡ Passed)
both_passed Passed w e = (refl, e)
both_passed (Refused number index) w e = (e, cc)

pub none_refused : (n i : ℕ) → refused_at n i ≡ Passed → n ≡ 0
none_refused zero i e = refl
none_refused (suc n) i e = cc

module _ (by : ℕ → ℕ) where
  -- the first record with a no decides for every longer list
  refusal_stops : (n j : ℕ) → j < n → first_refusal by j ≡ Passed → (by j ≡ 0 → ⊥) → first_refusal by n ≡ Refused (by j) j
  unfolding first_refusal
  refusal_stops zero j l a h = absurd (omega arith)
  refusal_stops (suc n) j l a h =
      ⊎_elim (λ (k : j < n). rw (refusal_stops n j k a h)) (λ (e : j ≡ n). rw (← e, a) (at_index (by j) h)) (below_suc l)
    where
      at_index : (m : ℕ) → (m ≡ 0 → ⊥) → or_else Passed (refused_at m j) ≡ Refused m j
      at_index zero g = absurd (g refl)
      at_index (suc m) g = refl

  -- where no record is refused, each answers every question with yes
  pub refusal_none : (n j : ℕ) → first_refusal by n ≡ Passed → j < n → by j ≡ 0
  unfolding first_refusal
  refusal_none zero j a l = absurd (omega arith)
  refusal_none (suc n) j a l =
      let b = both_passed (first_refusal by n) (refused_at (by n) n) a in
      ⊎_elim (λ (k : j < n). refusal_none n j b.0 k) (λ (e : j ≡ n). rw e (none_refused (by n) n b.1)) (below_suc l)

-- a walk over n records that stops at the first refusal: none below i is refused; k is what the code has for record i
pub record Unrefused (by : ℕ → ℕ) (n i : ℕ) : Type 0 where
  pub within : i ≤ n
  pub passed : first_refusal by i ≡ Passed

pub unrefused_none : {by : ℕ → ℕ} {n : ℕ} → Unrefused by n 0
unfolding first_refusal
unrefused_none = record { within = omega arith; passed = refl }

pub unrefused_more : {by : ℕ → ℕ} {n i k : ℕ} → Unrefused by n i → i < n → k ≡ by i → k ≡ 0 → Unrefused by n (i + 1)
unfolding first_refusal
unrefused_more u l e z = record { within = omega arith; passed = rw (add-one, u.passed, sym e ∙ z) }

pub unrefused_stops : {by : ℕ → ℕ} {n i k : ℕ} → Unrefused by n i → i < n → k ≡ by i → (k ≡ 0 → ⊥) → Refused k i ≡ first_refusal by n
unrefused_stops {by} {n} {i} u l e h = rw e (sym (refusal_stops by n i l u.passed (λ z. h (e ∙ z))))

pub unrefused_ends : {by : ℕ → ℕ} {n i : ℕ} → Unrefused by n i → n ≤ i → Passed ≡ first_refusal by n
unrefused_ends {by} {n} {i} u l =
    let e : i ≡ n = omega arith in
    sym (rw e at u.passed)
