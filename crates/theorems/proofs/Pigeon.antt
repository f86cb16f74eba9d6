-- Pigeonhole: no function takes the numbers up to n to different numbers below n.
-- By induction on n: whoever has the last hole takes the hole of the last pigeon, who leaves.
use Prim.Native.Nat.{ℕ, zero, suc, ◌≤◌, ◌<◌}
use mathlib.Core.Bool.{cond}
use mathlib.Core.Logic.{◌⊎◌, inl, inr, ⊎_elim}
use mathlib.Core.Path.{◌≡◌, refl, sym, ◌∙◌}
use native.Mathlib.Decide.{dec_lt}
use native.Mathlib.Omega.{arith}
use lib.Dec.{eqb}
use borrow.Author.Tests.{eq-eqb, ne_eqb}
use Rattle.mir.proofs.Clash.{same_or}

-- f with the hole of suc n in place of hole n
moved : ℕ → (ℕ → ℕ) → ℕ → ℕ
moved n f a = cond (eqb (f a) n) (f (suc n)) (f a)

moved_at : (n : ℕ) (f : ℕ → ℕ) (a : ℕ) → f a ≡ n → moved n f a ≡ f (suc n)
unfolding moved
moved_at n f a e = rw (eq-eqb (f a) n e)

moved_else : (n : ℕ) (f : ℕ → ℕ) (a : ℕ) → (f a ≡ n → ⊥) → moved n f a ≡ f a
unfolding moved
moved_else n f a h = rw (ne_eqb (f a) n h)

pub pigeonhole : (n : ℕ) (f : ℕ → ℕ) → ((a : ℕ) → a ≤ n → f a < n) → ((a b : ℕ) → a ≤ n → b ≤ n → f a ≡ f b → a ≡ b) → ⊥
pigeonhole zero f below apart = omega (arith, below 0 (omega arith))
pigeonhole (suc n) f below apart = pigeonhole n (moved n f) below' apart'
  where
    last_free : (a : ℕ) → a ≤ n → f a ≡ n → f (suc n) < n
    last_free a h e =
        ⊎_elim (λ (q : f (suc n) ≡ n). let z : a ≡ suc n = apart a (suc n) (omega arith) (omega arith) (e ∙ sym q) in absurd (omega arith))
        (λ (q : f (suc n) ≡ n → ⊥). omega (arith, below (suc n) (omega arith), q)) (same_or (f (suc n)) n)

    below' : (a : ℕ) → a ≤ n → moved n f a < n
    below' a h =
        ⊎_elim (λ (e : f a ≡ n). rw (moved_at n f a e) (last_free a h e))
        (λ (e : f a ≡ n → ⊥). rw (moved_else n f a e) (omega (arith, below a (omega arith), e))) (same_or (f a) n)

    apart' : (a b : ℕ) → a ≤ n → b ≤ n → moved n f a ≡ moved n f b → a ≡ b
    apart' a b h k e =
        ⊎_elim
        (λ (p : f a ≡ n).
        ⊎_elim (λ (q : f b ≡ n). apart a b (omega arith) (omega arith) (p ∙ sym q))
        (λ (q : f b ≡ n → ⊥).
        let z : suc n ≡ b = apart (suc n) b (omega arith) (omega arith) (sym (moved_at n f a p) ∙ (e ∙ moved_else n f b q)) in
        absurd (omega arith))
        (same_or (f b) n))
        (λ (p : f a ≡ n → ⊥).
        ⊎_elim
        (λ (q : f b ≡ n).
        let z : a ≡ suc n = apart a (suc n) (omega arith) (omega arith) (sym (moved_else n f a p) ∙ (e ∙ moved_at n f b q)) in
        absurd (omega arith))
        (λ (q : f b ≡ n → ⊥). apart a b (omega arith) (omega arith) (sym (moved_else n f a p) ∙ (e ∙ moved_else n f b q))) (same_or (f b) n))
        (same_or (f a) n)

-- n different registers below n, none of which is d, leave no room for d
module _ (n d : ℕ) (w : (c : ℕ) → c < n → ℕ) where
  pick : ℕ → ℕ
  pick c = go (dec_lt c n)
    where
      go : Dec (c < n) → ℕ
      go (yes h) = w c h
      go (no h) = d

  pick_cases : (c : ℕ) → ((h : c < n) × (pick c ≡ w c h)) ⊎ ((n ≤ c) × (pick c ≡ d))
  unfolding pick
  pick_cases c = go (dec_lt c n)
    where
      at : Dec (c < n) → ℕ
      at (yes h) = w c h
      at (no h) = d

      go : (q : Dec (c < n)) → ((h : c < n) × (at q ≡ w c h)) ⊎ ((n ≤ c) × (at q ≡ d))
      go (yes h) = inl (h, refl)
      go (no h) = inr (omega (arith, h), refl)

  pub no_room : d < n → ((c : ℕ) (h : c < n) → w c h < n) → ((c : ℕ) (h : c < n) → w c h ≡ d → ⊥)
      → ((a b : ℕ) (h : a < n) (k : b < n) → w a h ≡ w b k → a ≡ b) → ⊥
  no_room l inside other apart = pigeonhole n pick below different
    where
      below : (a : ℕ) → a ≤ n → pick a < n
      below a h =
          ⊎_elim (λ (q : (k : a < n) × (pick a ≡ w a k)). rw q.1 (inside a q.0)) (λ (q : (n ≤ a) × (pick a ≡ d)). rw q.1 l)
          (pick_cases a)

      different : (a b : ℕ) → a ≤ n → b ≤ n → pick a ≡ pick b → a ≡ b
      different a b h k e =
          ⊎_elim
          (λ (p : (g : a < n) × (pick a ≡ w a g)).
          ⊎_elim (λ (q : (g : b < n) × (pick b ≡ w b g)). apart a b p.0 q.0 (sym p.1 ∙ (e ∙ q.1)))
          (λ (q : (n ≤ b) × (pick b ≡ d)). absurd (other a p.0 (sym p.1 ∙ (e ∙ q.1)))) (pick_cases b))
          (λ (p : (n ≤ a) × (pick a ≡ d)).
          ⊎_elim (λ (q : (g : b < n) × (pick b ≡ w b g)). absurd (other b q.0 (sym q.1 ∙ (sym e ∙ p.1))))
          (λ (q : (n ≤ b) × (pick b ≡ d)). omega arith) (pick_cases b))
          (pick_cases a)
