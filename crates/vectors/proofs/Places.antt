-- Colours and ends as entries, one by one: what stands at each place, and when a slice is these entries.
-- By induction on how many there are.
use Rattle.std.proofs.Common.{ℕ, zero, suc, ◌+◌, ◌<◌, ◌≤◌, ◌≡◌, List, [], ◌∷◌, length, get_or, take, refl, sym, ap, ◌∙◌, arith}
use Rattle.std.proofs.lemmas.List.{ext_get_or}
use native.Mathlib.Decide.{dec_lt}
use Rattle.allocator.specs.declared.statics.Static.{Static}
use Rattle.allocator.specs.Statics.{entry, entries}

entries_length : (cs es : List ℕ) (n : ℕ) → n ≤ length cs → n ≤ length es → length (entries (take n cs) (take n es)) ≡ n
unfolding entries
entries_length cs es zero h i = refl
entries_length [] es (suc n) h i = absurd (omega arith)
entries_length (c ∷ cs) [] (suc n) h i = absurd (omega arith)
entries_length (c ∷ cs) (e ∷ es) (suc n) h i = ap suc (entries_length cs es n (omega arith) (omega arith))

entries_at : (cs es : List ℕ) (n k : ℕ) → k < n → n ≤ length cs → n ≤ length es
    → get_or (entries (take n cs) (take n es)) k (entry 0 0) ≡ entry (get_or cs k 0) (get_or es k 0)
unfolding entries
entries_at cs es zero k l h i = absurd (omega arith)
entries_at [] es (suc n) k l h i = absurd (omega arith)
entries_at (c ∷ cs) [] (suc n) k l h i = absurd (omega arith)
entries_at (c ∷ cs) (e ∷ es) (suc n) zero l h i = refl
entries_at (c ∷ cs) (e ∷ es) (suc n) (suc k) l h i = entries_at cs es n k (omega arith) (omega arith) (omega arith)

-- the first k entries have the colours and the ends
abbrev pub Same : List Static → List ℕ → List ℕ → ℕ → Type 0
Same ss cs es k = (j : ℕ) → j < k → get_or ss j (entry 0 0) ≡ entry (get_or cs j 0) (get_or es j 0)

pub same_next : (ss : List Static) (cs es : List ℕ) (k : ℕ) → Same ss cs es k → (get_or ss k (entry 0 0)).colour ≡ get_or cs k 0 → (get_or ss k (entry 0 0)).end ≡ get_or es k 0
    → Same ss cs es (k + 1)
same_next ss cs es k s c e j l = go (dec_lt j k)
  where
    go : Dec (j < k) → get_or ss j (entry 0 0) ≡ entry (get_or cs j 0) (get_or es j 0)
    go (yes h) = s j h
    go (no h) =
        let q : j ≡ k = omega (arith, h) in
        rw (q, ← c, ← e) refl

module _ (ss : List Static) (cs es : List ℕ) (h : length ss ≤ length cs) (i : length ss ≤ length es) where
  pub all_same : {k : ℕ} → Same ss cs es k → length ss ≤ k → ss ≡ entries (take (length ss) cs) (take (length ss) es)
  all_same s l =
      ext_get_or (entry 0 0) ss (entries (take (length ss) cs) (take (length ss) es)) (sym (entries_length cs es (length ss) h i))
      (λ j m. s j (omega (arith, m, l)) ∙ sym (entries_at cs es (length ss) j m h i))

  pub same_at : ss ≡ entries (take (length ss) cs) (take (length ss) es) → (k : ℕ) → k < length ss → get_or ss k (entry 0 0) ≡ entry (get_or cs k 0) (get_or es k 0)
  same_at e k l = ap (λ xs. get_or xs k (entry 0 0)) e ∙ entries_at cs es (length ss) k l h i
