-- Entries written one by one: what the slice holds after the next one.
-- By induction on the three lists.
use Rattle.std.proofs.Common.{ℕ, zero, suc, ◌+◌, ◌<◌, ◌≡◌, List, [], ◌∷◌, ◌++◌, length, get_or, set, take, drop, refl, sym, ap, ◌∙◌, add-one, arith}
use Rattle.allocator.specs.declared.statics.Static.{Static}
use Rattle.allocator.specs.Statics.{entry, entries}

-- the first k entries, the rest being what the slice held
abbrev pub written : List ℕ → List ℕ → List Static → ℕ → List Static
written cs es held k = entries (take k cs) (take k es) ++ drop k held

written_suc : (cs es : List ℕ) (held : List Static) (k : ℕ) → k < length cs → k < length es → k < length held
    → set (written cs es held k) k (entry (get_or cs k 0) (get_or es k 0)) ≡ written cs es held (suc k)
unfolding entries
written_suc [] es held k h i j = absurd (omega arith)
written_suc (c ∷ cs) [] held k h i j = absurd (omega arith)
written_suc (c ∷ cs) (e ∷ es) [] k h i j = absurd (omega arith)
written_suc (c ∷ cs) (e ∷ es) (s ∷ held) zero h i j = refl
written_suc (c ∷ cs) (e ∷ es) (s ∷ held) (suc k) h i j =
    ap (λ r. entry c e ∷ r) (written_suc cs es held k (omega arith) (omega arith) (omega arith))

pub written_next : (cs es : List ℕ) (held : List Static) (k : ℕ) {now : List Static} → now ≡ written cs es held k → k < length cs → k < length es → k < length held
    → set now k (entry (get_or cs k 0) (get_or es k 0)) ≡ written cs es held (k + 1)
written_next cs es held k w h i j =
    ap (λ ws. set ws k (entry (get_or cs k 0) (get_or es k 0))) w
    ∙ (written_suc cs es held k h i j ∙ ap (written cs es held) (sym (add-one k)))
