-- The records of a list that goes on: those of its beginning, and then the new one; and lists whose records are all of some kinds.
-- By the laws of the first and the other words of a list, and of each number below a count.
use Prim.Native.Nat.{ℕ, ◌+◌, ◌*◌, ◌≤◌, ◌<◌}
use mathlib.Core.Bool.{Bool, true}
use mathlib.Core.List.{List, ◌++◌}
use mathlib.Core.Path.{◌≡◌, sym, ◌∙◌}
use native.Mathlib.Omega.{arith}
use lib.ListN.{length, drop, length-drop}
use lib.Seq.{take-append-le, drop-append-le, drop_at, take_all}
use Rattle.mir.specs.Records.{records, record_at, word_at}
use Rattle.mir.specs.Shapes.{row}
use Rattle.mir.proofs.Folds.{all_at, all_each}
use Rattle.mir.proofs.Records.{words_at}
use Rattle.passes.specs.Machine.{AllKinds}

pub record_early : (xs ys : List ℕ) (j : ℕ) → j * 8 + 8 ≤ length xs → record_at (xs ++ ys) j ≡ record_at xs j
unfolding record_at
record_early xs ys j h =
    let a : j * 8 ≤ length xs = omega arith in
    let b : 8 ≤ length (drop (j * 8) xs) = rw length-drop (omega arith) in
    rw (drop-append-le (j * 8) xs ys a) (take-append-le 8 (drop (j * 8) xs) ys b)

pub record_new : (xs rec : List ℕ) (k : ℕ) → length xs ≡ k * 8 → length rec ≡ 8 → record_at (xs ++ rec) k ≡ rec
unfolding record_at
record_new xs rec k h r = rw (drop_at xs rec (k * 8) h) (take_all 8 rec (omega arith))

-- record i is eight words
pub record_length : (list : List ℕ) (i : ℕ) → i < records list → length (record_at list i) ≡ 8
unfolding record_at
record_length list i l = lib.Seq.length-take-le 8 (drop (i * 8) list) (rw length-drop (omega arith))

-- a record of eight words is its words
pub eight : (l : List ℕ) → length l ≡ 8
    → l ≡ row (word_at l 0) (word_at l 1) (word_at l 2) (word_at l 3) (word_at l 4) (word_at l 5) (word_at l 6) (word_at l 7)
eight l h = sym (take_all 8 l (omega arith)) ∙ words_at l 8 0 (omega arith)

-- ---- the kinds of a list's records

module _ (list : List ℕ) (p : ℕ → Bool) where
  pub kind_at : AllKinds p list → (i : ℕ) → i < records list → p (word_at (record_at list i) 0) ≡ true
  unfolding AllKinds
  kind_at h i l = all_at (λ (j : ℕ). p (word_at (record_at list j) 0)) (records list) i h l

  pub all_kinds : ((i : ℕ) → i < records list → p (word_at (record_at list i) 0) ≡ true) → AllKinds p list
  unfolding AllKinds
  all_kinds h = all_each (λ (j : ℕ). p (word_at (record_at list j) 0)) (records list) h

pub more_kinds : (list : List ℕ) (p q : ℕ → Bool) → ((k : ℕ) → p k ≡ true → q k ≡ true) → AllKinds p list → AllKinds q list
more_kinds list p q more h = all_kinds list q (λ i l. more (word_at (record_at list i) 0) (kind_at list p h i l))
