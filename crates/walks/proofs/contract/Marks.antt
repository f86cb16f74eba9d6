-- The last walk takes away the marks of the ends, record by record, and leaves the ends.
-- Of the flags, those of the statics that it has seen are down; the next static's is read, then taken down.
use Prim.Native.Nat.{ℕ, zero, suc, ◌+◌, ◌%◌, ◌<◌, ◌≤◌}
use mathlib.Core.Bool.{Bool, true, false}
use mathlib.Core.List.{List, [], ◌∷◌, map}
use mathlib.Core.Path.{◌≡◌, refl, sym, ap, ◌∙◌}
use native.Mathlib.Nat.{add-zero}
use native.Mathlib.Omega.{arith}
use lib.ListN.{length, get_or, set, take, drop, length-append}
use lib.Seq.{set-get_or}
use borrow.Rule.Slice.PartMut.{put_mid, put_same}
use Rattle.mir.specs.Answers.{over}
use Rattle.coloring.specs.Coloring.{mark, marked}
use Rattle.coloring.proofs.Dests.{marked_at, marked_length}
use Rattle.mir.proofs.Over.{over_get, over_set}

-- the flags after k statics were seen
pub seen : ℕ → List Bool → List Bool
seen zero fs = fs
seen (suc k) [] = []
seen (suc k) (f ∷ fs) = false ∷ seen k fs

pub seen_none : (fs : List Bool) → seen 0 fs ≡ fs
unfolding seen
seen_none fs = refl

-- the others stay
pub seen_past : (k j : ℕ) (fs : List Bool) → k ≤ j → get_or (seen k fs) j false ≡ get_or fs j false
unfolding seen
seen_past zero j fs h = refl
seen_past (suc k) j [] h = refl
seen_past (suc k) zero (f ∷ fs) h = absurd (omega arith)
seen_past (suc k) (suc j) (f ∷ fs) h = seen_past k j fs (omega arith)

-- one flag taken down
seen_next : (k : ℕ) (fs : List Bool) (es : List ℕ) → k < length es → set (marked (seen k fs) es) k (get_or es k 0) ≡ marked (seen (suc k) fs) es
unfolding seen marked
seen_next k fs [] h = absurd (omega arith)
seen_next zero [] (e ∷ es) h = refl
seen_next (suc k) [] (e ∷ es) h = set-get_or (e ∷ es) (suc k) 0
seen_next zero (f ∷ fs) (e ∷ es) h = ap (λ v. v ∷ marked fs es) (sym (add-zero e))
seen_next (suc k) (f ∷ fs) (e ∷ es) h = ap (λ r. (e + 0) ∷ r) (seen_next k fs es (omega arith))

-- all of them
pub seen_all : (k : ℕ) (fs : List Bool) (es : List ℕ) → length fs ≤ k → marked (seen k fs) es ≡ es
unfolding seen marked
seen_all zero [] es h = refl
seen_all zero (f ∷ fs) es h = absurd (omega arith)
seen_all (suc k) [] es h = refl
seen_all (suc k) (f ∷ fs) [] h = refl
seen_all (suc k) (f ∷ fs) (e ∷ es) h = ap (λ v. v ∷ marked (seen k fs) es) (add-zero e) ∙ ap (λ r. e ∷ r) (seen_all k fs es (omega arith))

mark_gone : (e : ℕ) (f : Bool) → e < 65536 → (e + mark f) % 65536 ≡ e
mark_gone e true h = omega arith
mark_gone e false h = omega arith

-- the elements of a part changed one by one
changed_one : (f : ℕ → ℕ) (xs : List ℕ) (k n : ℕ) → k < length xs
    → put_mid k (suc n) xs (map f (take (suc n) (drop k xs)))
    ≡ put_mid (suc k) n (set xs k (f (get_or xs k 0))) (map f (take n (drop (suc k) (set xs k (f (get_or xs k 0))))))
changed_one f [] k n h = absurd (omega arith)
changed_one f (x ∷ xs) zero n h = refl
changed_one f (x ∷ xs) (suc k) n h = ap (λ l. x ∷ l) (changed_one f xs k n (omega arith))

module _ (E E0 : List ℕ) (fs : List Bool) (small : (k : ℕ) → k < length E → get_or E k 0 < 65536) where
  unmark_one : (k : ℕ) → k < length E
      → set (over (marked (seen k fs) E) E0) k (get_or (over (marked (seen k fs) E) E0) k 0 % 65536) ≡ over (marked (seen (suc k) fs) E) E0
  unmark_one k h =
      let l : k < length (marked (seen k fs) E) = rw (marked_length (seen k fs) E) h in
      let v : get_or (over (marked (seen k fs) E) E0) k 0 % 65536 ≡ get_or E k 0 =
      ap (λ n. n % 65536) (over_get (marked (seen k fs) E) E0 k 0 l ∙ marked_at (seen k fs) E k h) ∙ mark_gone (get_or E k 0) (get_or (seen k fs) k false) (small k h) in
      rw v (over_set (marked (seen k fs) E) E0 k (get_or E k 0) l ∙ ap (λ xs. over xs E0) (seen_next k fs E h))

  -- and of the statics from k on, n of them
  pub unmark_part : (n k : ℕ) → k + n ≤ length E
      → put_mid k n (over (marked (seen k fs) E) E0) (map (λ e. e % 65536) (take n (drop k (over (marked (seen k fs) E) E0)))) ≡ over (marked (seen (k + n) fs) E) E0
  unmark_part zero k h = rw (add-zero k) (put_same k 0 (over (marked (seen k fs) E) E0))
  unmark_part (suc n) k h =
      let long : k < length (over (marked (seen k fs) E) E0) =
      omega (arith, length-append (marked (seen k fs) E) (drop (length (marked (seen k fs) E)) E0), marked_length (seen k fs) E) in
      let shift : suc k + n ≡ k + suc n = omega arith in
      changed_one (λ e. e % 65536) (over (marked (seen k fs) E) E0) k n long
      ∙ (ap (λ ys. put_mid (suc k) n ys (map (λ e. e % 65536) (take n (drop (suc k) ys)))) (unmark_one k (omega arith))
      ∙ rw shift at (unmark_part n (suc k) (omega arith)))
