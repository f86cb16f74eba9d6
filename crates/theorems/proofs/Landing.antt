-- Where things are in the reduced list: a record that is kept stands as far from its start as records are kept before it, and so does
-- the last Label with a number.
-- By induction on the records: what was put out stays where it is, and a Label is kept as it is.
use Prim.Native.Nat.{ℕ, zero, suc, ◌+◌, ◌-◌, ◌*◌, ◌≤◌, ◌<◌}
use mathlib.Core.Bool.{Bool, true, false, cond, ◌&&◌, ◌||◌, or-false}
use mathlib.Core.List.{List, [], ◌∷◌, ◌++◌, map, append-nil}
use mathlib.Core.Logic.{inr}
use mathlib.Core.Path.{◌≡◌, refl, sym, ap, ◌∙◌}
use native.Mathlib.Omega.{arith}
use lib.Dec.{eqb}
use lib.ListN.{length, get_or}
use borrow.Author.Tests.{eqb-true}
use Rattle.mir.specs.declared.config.Settings.{Settings}
use Rattle.mir.specs.Branches.{is_label, label_at}
use Rattle.mir.specs.Folds.{any_below, last_below}
use Rattle.mir.specs.Records.{records, record_at, word_at, fixed_mark}
use Rattle.mir.specs.Shapes.{label, shape_of}
use Rattle.mir.proofs.Clash.{clash}
use Rattle.mir.proofs.Passing.{ListPasses}
use Rattle.mir.proofs.Renaming.{and_both}
use Rattle.passes.specs.declared.alloc.Outcome.TheVariants.{Kept}
use Rattle.passes.specs.Color.{Setup, setup}
use Rattle.passes.specs.Contract.{is_kept, outcome_of, outcome_at, out_at, reduced_to, reduced, count_to}
use Rattle.passes.specs.Machine.{target}
use Rattle.theorems.proofs.Lengths.{out_length, kept_next, reduced_length}
use Rattle.theorems.proofs.Reduced.{same_kind, same_word}
use Rattle.theorems.proofs.Rows.{record_early, record_new}
use Rattle.theorems.proofs.Update.{never_falls}

-- ---- the last number

last_same : (p q : ℕ → Bool) (n : ℕ) → ((j : ℕ) → j < n → p j ≡ q j) → last_below p n ≡ last_below q n
unfolding last_below
last_same p q zero h = refl
last_same p q (suc n) h = rw (h n (omega arith), last_same p q n (λ j l. h j (omega arith)))

-- p holds of some number, and so of the last one
pub last_holds : (p : ℕ → Bool) (n e : ℕ) → any_below n p ≡ true → (get_or (last_below p n) 0 e < n) × (p (get_or (last_below p n) 0 e) ≡ true)
unfolding any_below last_below
last_holds p zero e h = clash (cc)
last_holds p (suc n) e h = go (p n) refl h (last_holds p n e)
  where
    Held : ℕ → List ℕ → Type 0
    Held n l = (get_or l 0 e < n) × (p (get_or l 0 e) ≡ true)

    go : (b : Bool) → p n ≡ b → (any_below n p || b) ≡ true → (any_below n p ≡ true → Held n (last_below p n)) → Held (suc n) (cond b (n ∷ []) (last_below p n))
    go true q k up = (omega arith, q)
    go false q k up =
        let r = up (sym (or-false (any_below n p)) ∙ k) in
        (omega (arith, r.0), r.1)

pub label_kind : (name : ℕ) (rec : List ℕ) → is_label name rec ≡ true → word_at rec 0 ≡ label
unfolding is_label
label_kind name rec h = eqb-true (word_at rec 0) label (and_both (eqb (word_at rec 0) label) (eqb (word_at rec 1) name) h).0

module _ (s : Settings) (list table : List ℕ) where
  abbrev u : Setup
  u = setup s list table

  abbrev pub kept : ℕ → Bool
  kept i = is_kept (outcome_at (fixed_mark s) u i)

  -- how many records are kept before record i
  abbrev pub place : ℕ → ℕ
  place i = count_to Kept (fixed_mark s) u i

  abbrev to : ℕ → List ℕ
  to i = reduced_to (fixed_mark s) u i

  pub place_next : (i : ℕ) → place (suc i) ≡ place i + cond (kept i) 1 0
  place_next = kept_next (fixed_mark s) u

  place_mono : (k i : ℕ) → place i ≤ place (k + i)
  place_mono = never_falls place (λ i. omega (arith, place_next i))

  pub place_end : place (records list) ≡ records (reduced s list table)
  unfolding reduced
  place_end = omega (arith, reduced_length (fixed_mark s) u (records list) (omega arith))

  -- ---- a record that is kept

  module _ (i : ℕ) (inside : i < records list) (k : kept i ≡ true) where
    one_kept : place (suc i) ≡ suc (place i)
    one_kept = place_next i ∙ rw k (omega arith)

    stays : (d : ℕ) → d + suc i ≤ records list → record_at (to (d + suc i)) (place i) ≡ out_at u i
    unfolding reduced_to
    stays zero l =
        rw (native.Mathlib.Nat.zero-add, k) (record_new (to i) (out_at u i) (place i) (reduced_length (fixed_mark s) u i (omega arith)) (out_length u i inside))
    stays (suc d) l =
        let n = d + suc i in
        let len = reduced_length (fixed_mark s) u n (omega arith) in
        rw native.Mathlib.Nat.suc-add
        (record_early (to n) (cond (kept n) (out_at u n) []) (place i) (omega (arith, len, one_kept, place_mono d (suc i))) ∙ stays d (omega arith))

    pub kept_record : record_at (reduced s list table) (place i) ≡ out_at u i
    unfolding reduced
    kept_record =
        let d = records list - suc i in
        let n : d + suc i ≡ records list = omega arith in
        rw n at (stays d (omega arith))

    pub kept_inside : place i < records (reduced s list table)
    kept_inside =
        let d = records list - suc i in
        let n : d + suc i ≡ records list = omega arith in
        omega (arith, one_kept, rw n at (place_mono d (suc i)), place_end)

  -- ---- the last Label

  module _ (passes : ListPasses s list table) (name : ℕ) where
    -- a Label is put out as it is
    label_same : (i : ℕ) → i < records list → is_label name (out_at u i) ≡ is_label name (record_at list i)
    unfolding is_label shape_of
    label_same i l = rw (same_kind s list table passes i l) (go (eqb (word_at (record_at list i) 0) label) refl)
      where
        go : (b : Bool) → eqb (word_at (record_at list i) 0) label ≡ b → (b && eqb (word_at (out_at u i) 1) name) ≡ (b && eqb (word_at (record_at list i) 1) name)
        go true e = rw (same_word s list table passes i l 1 (inr (rw (eqb-true (word_at (record_at list i) 0) label e) (omega arith))))
        go false e = refl

    label_kept : (i : ℕ) → i < records list → is_label name (record_at list i) ≡ true → kept i ≡ true
    unfolding outcome_at outcome_of shape_of
    label_kept i l h = rw (same_kind s list table passes i l, label_kind name (record_at list i) h)

    last_next : (i : ℕ) → i < records list → last_below (label_at (to i) name) (place i) ≡ map place (last_below (label_at list name) i)
        → last_below (label_at (to (suc i)) name) (place (suc i)) ≡ map place (last_below (label_at list name) (suc i))
    unfolding last_below reduced_to
    last_next i l up = rw (place_next i) (go (kept i) refl (label_at list name i) refl)
      where
        c : ℕ
        c = place i

        len : length (to i) ≡ c * 8
        len = reduced_length (fixed_mark s) u i (omega arith)

        -- with the record put out: it is the last one, and those before it are as they were
        one_more : (b : Bool) → label_at list name i ≡ b → last_below (label_at (to i ++ out_at u i) name) (suc c) ≡ map place (cond b (i ∷ []) (last_below (label_at list name) i))
        one_more b e =
            rw (record_new (to i) (out_at u i) c len (out_length u i l), label_same i l, e) (pick b)
          where
            pick : (b : Bool) → cond b (c ∷ []) (last_below (label_at (to i ++ out_at u i) name) c) ≡ map place (cond b (i ∷ []) (last_below (label_at list name) i))
            pick true = refl
            pick false =
                last_same (label_at (to i ++ out_at u i) name) (label_at (to i) name) c
                (λ k h. ap (is_label name) (record_early (to i) (out_at u i) k (omega (arith, len))))
                ∙ up

        go : (k : Bool) → kept i ≡ k → (b : Bool) → label_at list name i ≡ b
            → last_below (label_at (to i ++ cond k (out_at u i) []) name) (c + cond k 1 0) ≡ map place (cond b (i ∷ []) (last_below (label_at list name) i))
        go true q b e = rw native.Mathlib.Numerals.add-one (one_more b e)
        go false q true e =
            let f = label_kept i l e in
            clash (cc)
        go false q false e = rw (append-nil (to i), native.Mathlib.Nat.add-zero) up

    last_to : (i : ℕ) → i ≤ records list → last_below (label_at (to i) name) (place i) ≡ map place (last_below (label_at list name) i)
    unfolding last_below count_to
    last_to zero l = refl
    last_to (suc i) l = last_next i (omega arith) (last_to i (omega arith))

  first_of : (l : List ℕ) (n : ℕ) → get_or (map place l) 0 (place n) ≡ place (get_or l 0 n)
  first_of [] n = refl
  first_of (x ∷ l) n = refl

  pub target_same : (passes : ListPasses s list table) (name : ℕ) → target (reduced s list table) name ≡ place (target list name)
  unfolding target reduced
  target_same passes name =
      let n = records list in
      rw (← place_end, last_to passes name n (omega arith)) (first_of (last_below (label_at list name) n) n)
