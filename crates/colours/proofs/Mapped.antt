-- A list changed element by element: the first c of it are, and an element that is what it becomes need not be.
-- By the laws of `set`, `take` and `drop` at a seam.
use Prim.Native.Nat.{ℕ, zero, suc, ◌+◌, ◌-◌, ◌<◌, ◌≤◌}
use mathlib.Core.List.{List, [], ◌∷◌, ◌++◌, map, append-nil}
use mathlib.Core.Path.{◌≡◌, refl, sym, ap, ◌∙◌}
use native.Mathlib.Nat.{zero-add, suc-add}
use native.Mathlib.Numerals.{add-one}
use native.Mathlib.Omega.{arith}
use Rattle.std.proofs.lemmas.List.{map-append}
use lib.ListN.{length, get_or, set, take, drop, length-map, drop_of_length-le}
use lib.Seq.{length-take-le, take_all, drop-cons, take-suc, append_snoc, set_at, get_or_at, set-get_or}

module _ {ℓ} {A : Type ℓ} (f : A → A) where
  pub mapped_to : List A → ℕ → List A
  mapped_to xs c = map f (take c xs) ++ drop c xs

  pub mapped_zero : (xs : List A) → xs ≡ mapped_to xs 0
  unfolding mapped_to
  mapped_zero xs = refl

  head_length : (xs : List A) (c : ℕ) → c < length xs → length (map f (take c xs)) ≡ c
  head_length xs c h = length-map (take c xs) f ∙ length-take-le c xs (omega arith)

  pub mapped_at : (xs : List A) (c : ℕ) (d : A) → c < length xs → get_or (mapped_to xs c) c d ≡ get_or xs c d
  unfolding mapped_to
  mapped_at xs c d h =
      ap (λ r. get_or (map f (take c xs) ++ r) c d) (drop-cons xs c d h)
      ∙ get_or_at (map f (take c xs)) (get_or xs c d) (drop (suc c) xs) d c (head_length xs c h)

  pub mapped_next : (xs : List A) (c : ℕ) (d : A) → c < length xs → set (mapped_to xs c) c (f (get_or xs c d)) ≡ mapped_to xs (c + 1)
  unfolding mapped_to
  mapped_next xs c d h =
      rw (add-one c)
      (ap (λ r. set (map f (take c xs) ++ r) c (f (get_or xs c d))) (drop-cons xs c d h)
      ∙ (set_at (map f (take c xs)) (get_or xs c d) (drop (suc c) xs) (f (get_or xs c d)) c (head_length xs c h)
      ∙ (sym (append_snoc (map f (take c xs)) (f (get_or xs c d)) (drop (suc c) xs))
      ∙ ap (λ r. r ++ drop (suc c) xs) (sym (map-append f (take c xs) (get_or xs c d ∷ [])) ∙ ap (map f) (sym (take-suc xs c d h))))))

  -- one element more, of a list that is changed so far
  pub mapped_more : (xs : List A) {ws : List A} (c : ℕ) (d : A) → c < length xs → ws ≡ mapped_to xs c → set ws c (f (get_or ws c d)) ≡ mapped_to xs (c + 1)
  mapped_more xs c d h e = rw e (ap (λ a. set (mapped_to xs c) c (f a)) (mapped_at xs c d h) ∙ mapped_next xs c d h)

  pub mapped_all : (xs : List A) (c : ℕ) → length xs ≤ c → mapped_to xs c ≡ map f xs
  unfolding mapped_to
  mapped_all xs c h =
      ap (λ r. map f r ++ drop c xs) (take_all c xs h) ∙ (ap (λ r. map f xs ++ r) (drop_of_length-le xs h) ∙ append-nil (map f xs))

  -- from n on nothing changes
  pub mapped_rest : (xs : List A) (n : ℕ) (d : A) → n ≤ length xs → ((c : ℕ) → n ≤ c → f (get_or xs c d) ≡ get_or xs c d) → mapped_to xs n ≡ map f xs
  mapped_rest xs n d h same =
      let e : length xs - n + n ≡ length xs = omega arith in
      sym (rest (length xs - n) (omega arith)) ∙ rw e (mapped_all xs (length xs) (omega arith))
    where
      rest : (k : ℕ) → k + n ≤ length xs → mapped_to xs (k + n) ≡ mapped_to xs n
      rest zero l = rw zero-add refl
      rest (suc k) l =
          rw (suc-add, ← (add-one (k + n)))
          (sym (mapped_next xs (k + n) d (omega arith))
          ∙ (ap (set (mapped_to xs (k + n)) (k + n)) (same (k + n) (omega arith) ∙ sym (mapped_at xs (k + n) d (omega arith)))
          ∙ (set-get_or (mapped_to xs (k + n)) (k + n) d ∙ rest k (omega arith))))
