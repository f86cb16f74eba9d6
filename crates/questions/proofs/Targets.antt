-- Question 16: what the words that are read say, the table of numbers (one put in, one taken out, none there), and what a branch is refused by.
-- By whether two places are the same.
use Prim.Native.Nat.{ℕ, zero, suc, ◌≤◌, ◌+◌, ◌-◌, ◌*◌, ◌/◌, ◌%◌, ◌<◌}
use mathlib.Core.Bool.{Bool, true, false, cond, not}
use mathlib.Core.List.{List, []}
use mathlib.Core.Path.{◌≡◌, refl, sym, ◌∙◌}
use native.Mathlib.Decide.{ℕ_discrete, dec_lt}
use native.Mathlib.Omega.{arith}
use lib.Dec.{eqb}
use lib.ListN.{length, get_or, set, take, drop}
use lib.Seq.{get_or-set_same, get_or-set_other, get_or-take, get_or-drop}
use borrow.Author.Tests.{eq-eqb, ne_eqb, eqb-true}
use Rattle.std.specs.Prelude.{Option, Some, None}
use Rattle.std.specs.List.{position, position_or_len}
use Rattle.std.proofs.lemmas.List.Sums.{fails_before_first}
use Rattle.std.proofs.lemmas.Grind.{common_steps}
use Rattle.mir.specs.Branches.{is_label, is_branch, label_of}
use Rattle.questions.specs.Table.{Collected, Without, target_of, slot_of, holds, Taken, is_left}
use Rattle.mir.specs.Questions.{has_label, branch_by}
use Rattle.mir.specs.Records.{records, record_at}
use Rattle.mir.specs.Shapes.{label}
use Rattle.mir.proofs.Folds.{Unrefused, unrefused_more, any_some, any_none, any_same, any_kept}

-- ---- a Label's words, and a branch's
pub label_is : (rec : List ℕ) → get_or rec 0 0 ≡ label → (name : ℕ) → is_label name rec ≡ eqb (get_or rec 1 0) name
unfolding is_label
label_is rec e name = rw e

pub label_not : (rec : List ℕ) → (get_or rec 0 0 ≡ label → ⊥) → (name : ℕ) → is_label name rec ≡ false
unfolding is_label
label_not rec h name = rw (ne_eqb _ _ h)

-- what the code says of a record's target
pub goes_to : (rec : List ℕ) {target : Option ℕ} {number : ℕ} → target ≡ target_of rec → target ≡ Some number
    → (is_branch rec ≡ true) × (label_of rec ≡ number)
goes_to rec {target} {number} e told = go (is_branch rec) (label_of rec) (sym e ∙ told)
  where
    go : (b : Bool) (l : ℕ) → cond b (Some l) None ≡ Some number → (b ≡ true) × (l ≡ number)
    go true l h = (refl, cc)
    go false l h = (cc, cc)

pub goes_nowhere : (rec : List ℕ) {target : Option ℕ} → target ≡ target_of rec → target ≡ None → is_branch rec ≡ false
goes_nowhere rec {target} e told = go (is_branch rec) (label_of rec) (sym e ∙ told)
  where
    go : (b : Bool) (l : ℕ) → cond b (Some l) None ≡ None → b ≡ false
    go true l h = cc
    go false l h = refl

-- ---- the table

pub slot_below : (number : ℕ) → slot_of number < 512
unfolding slot_of
slot_below number = omega arith

-- a place by its slot
pub place_is : {p s : ℕ} → p / 8 ≡ s → s * 8 + p % 8 ≡ p
place_is e = omega arith

module _ (table : List ℕ) (number : ℕ) where
  pub holds_at : (p : ℕ) → p / 8 ≡ slot_of number → get_or table p 0 ≡ number → holds table number ≡ true
  unfolding holds
  holds_at p e h = any_some _ 8 (p % 8) (omega arith) (rw (place_is e) (eq-eqb _ _ h))

  pub holds_none : ((k : ℕ) → k < 8 → get_or table (slot_of number * 8 + k) 0 ≡ number → ⊥) → holds table number ≡ false
  unfolding holds
  holds_none h = any_none _ 8 (λ k l. ne_eqb _ _ (h k l))

-- a word is stored at place p
module _ (table : List ℕ) (len : length table ≡ 4096) (p : ℕ) (within : p < 4096) where
  store_here : (v : ℕ) → get_or (set table p v) p 0 ≡ v
  store_here v = get_or-set_same table p v 0 (omega arith)

  pub put_there : (number : ℕ) → p / 8 ≡ slot_of number → holds (set table p number) number ≡ true
  put_there number e = holds_at _ number p e (store_here number)

  -- what stands there belongs elsewhere, so nothing is lost
  pub put_kept : (v : ℕ) → (Taken table p → ⊥) → (t : ℕ) → holds table t ≡ true → holds (set table p v) t ≡ true
  unfolding holds
  put_kept v free t = any_kept _ _ 8 (λ k l h. go k l h (ℕ_discrete (slot_of t * 8 + k) p))
    where
      go : (k : ℕ) → k < 8 → eqb (get_or table (slot_of t * 8 + k) 0) t ≡ true → Dec (slot_of t * 8 + k ≡ p)
          → eqb (get_or (set table p v) (slot_of t * 8 + k) 0) t ≡ true
      go k l h (yes e) =
          let at : get_or table (slot_of t * 8 + k) 0 ≡ t = eqb-true _ _ h in
          absurd (free (rw (← e, at) (omega arith)))
      go k l h (no g) = rw (get_or-set_other table p (slot_of t * 8 + k) v 0 g) h

  -- the number that stands there is taken out, and no other
  pub struck : (number v : ℕ) → p / 8 ≡ slot_of number → (slot_of v ≡ slot_of number → ⊥) → get_or table p 0 ≡ number
      → (t : ℕ) → (number ≡ t → ⊥) → holds (set table p v) t ≡ holds table t
  unfolding holds
  struck number v is away at t other = any_same _ _ 8 (λ k l. go k l (ℕ_discrete (slot_of t * 8 + k) p))
    where
      go : (k : ℕ) → k < 8 → Dec (slot_of t * 8 + k ≡ p)
          → eqb (get_or (set table p v) (slot_of t * 8 + k) 0) t ≡ eqb (get_or table (slot_of t * 8 + k) 0) t
      go k l (yes e) =
          let same : slot_of t ≡ slot_of number = omega arith in
          rw (e, store_here v, at, ne_eqb number t other) (ne_eqb v t (λ (q : v ≡ t). away (rw q same)))
      go k l (no g) = rw (get_or-set_other table p (slot_of t * 8 + k) v 0 g)

-- ---- question 16 of a record

module _ (list : List ℕ) (i : ℕ) where
  pub by_none : is_branch (record_at list i) ≡ false → branch_by list i ≡ 0
  by_none e = rw e

  -- the branches that are left are those that are refused
  pub by_left : (table : List ℕ)
      → (is_branch (record_at list i) ≡ true → holds table (label_of (record_at list i)) ≡ not (has_label list (label_of (record_at list i))))
      → branch_by list i ≡ cond (is_left table (record_at list i)) 16 0
  by_left table settled = go (is_branch (record_at list i)) refl
    where
      refused : (b : Bool) → ◌≡◌ {A = ℕ} (cond b 0 16) (cond (not b) 16 0)
      refused true = refl
      refused false = refl

      go : (b : Bool) → is_branch (record_at list i) ≡ b → branch_by list i ≡ cond (is_left table (record_at list i)) 16 0
      go true e = rw (e, settled e) (refused (has_label list (label_of (record_at list i))))
      go false e = rw e

-- records that follow each other and are not refused
pub unrefused_until : (list : List ℕ) (from until : ℕ) → Unrefused (branch_by list) (records list) from → from ≤ until → until ≤ records list
    → ((i : ℕ) → from ≤ i → i < until → branch_by list i ≡ 0) → Unrefused (branch_by list) (records list) until
unrefused_until list from zero u a l h =
    let e : from ≡ 0 = omega arith in
    rw e at u
unrefused_until list from (suc n) u a l h = go (dec_lt n from) (λ f. unrefused_until list from n u f (omega arith) (λ i b m. h i b (omega arith)))
  where
    go : Dec (n < from) → (from ≤ n → Unrefused (branch_by list) (records list) n) → Unrefused (branch_by list) (records list) (suc n)
    go (yes m) before =
        let e : from ≡ suc n = omega arith in
        rw e at u
    go (no g) before =
        let e : suc n ≡ n + 1 = omega arith in
        rw e (unrefused_more (before (omega arith)) (omega arith) refl (h n (omega arith) (omega arith)))

-- a round's records, the branches among them in the table without the Labels' numbers
module _ {list before : List ℕ} (after : List ℕ) {from until : ℕ} (round : Collected list from until before) (struck : Without (has_label list) before after) where
  pub left_is : (i : ℕ) → from ≤ i → i < until → branch_by list i ≡ cond (is_left after (record_at list i)) 16 0
  left_is i a b = by_left list i after (λ br. rw (struck (label_of (record_at list i)), round.held i a b br))

-- a part of the records, from one on
pub part_at : (list : List ℕ) (rows : List (List ℕ)) {from until : ℕ} → ((i : ℕ) → i < records list → get_or rows i [] ≡ record_at list i)
    → until ≤ records list → (i : ℕ) → from ≤ i → i < until → get_or (take (until - from) (drop from rows)) (i - from) [] ≡ record_at list i
part_at list rows {from} {until} each u i a b =
    let m : i - from < until - from = omega arith in
    let e : from + (i - from) ≡ i = omega arith in
    rw (get_or-take, get_or-drop, e) (each i (omega arith))

-- where the search finds none, none passes
pub position_none : {X : Type 0} (p : X → Bool) (xs : List X) (d : X) → position p xs ≡ None → (k : ℕ) → k < length xs → p (get_or xs k d) ≡ false
position_none p xs d e k l =
    let all : length xs ≤ position_or_len p xs = grind (arith, common_steps) in
    fails_before_first p xs k d (omega arith)
