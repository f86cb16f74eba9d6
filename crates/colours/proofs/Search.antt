-- `first_below`: none at all, the number that decides; two that find the same; and the library's first position.
-- By induction on the count.
use Rattle.std.specs.Prelude.{Option, Some, None}
use Prim.Native.Nat.{ℕ, zero, suc, ◌+◌, ◌-◌, ◌<◌, ◌≤◌}
use mathlib.Core.Bool.{Bool, true, false, cond}
use mathlib.Core.List.{List}
use mathlib.Core.Logic.{⊎_elim}
use mathlib.Core.Path.{◌≡◌, refl, ◌∙◌}
use native.Mathlib.Nat.{zero-add, suc-add}
use native.Mathlib.Omega.{arith}
use lib.ListN.{length, get_or, take}
use lib.Seq.{length-take-le, get_or-take}
use borrow.Author.Tests.{lt-ltb, le-ltb}
use Rattle.std.specs.List.{position, position_or_len}
use Rattle.std.proofs.lemmas.List.Sums.{position_or_len_is}
use Rattle.mir.proofs.Clash.{clash}
use Rattle.mir.proofs.Folds.{below_suc}
use Rattle.passes.specs.Color.{or_next, first_below}
use Rattle.theorems.proofs.Choice.{first_some, first_none}

module _ (p : ℕ → Bool) where
  pub first_absent : (n : ℕ) → ((c : ℕ) → c < n → p c ≡ false) → first_below p n ≡ None
  unfolding first_below
  first_absent zero h = refl
  first_absent (suc n) h = rw (first_absent n (λ c l. h c (omega arith)), h n (omega arith))

  pub first_stops : (n c : ℕ) → c < n → first_below p c ≡ None → p c ≡ true → first_below p n ≡ Some c
  unfolding first_below
  first_stops zero c l a h = absurd (omega arith)
  first_stops (suc n) c l a h =
      ⊎_elim (λ (k : c < n). rw (first_stops n c k a h)) (λ (e : c ≡ n). rw (← e, a, h)) (below_suc l)

  -- and none before the number that decides
  first_least : (n c : ℕ) → first_below p n ≡ Some c → first_below p c ≡ None
  unfolding first_below
  first_least zero c e = clash (cc)
  first_least (suc n) c e = go (first_least n c) (first_below p n) refl (p n) e
    where
      go : (first_below p n ≡ Some c → first_below p c ≡ None) → (o : Option ℕ) → first_below p n ≡ o → (b : Bool) → or_next o (cond b (Some n) None) ≡ Some c → first_below p c ≡ None
      go up (Some k) q b f = up (q ∙ f)
      go up None q true f =
          let t : n ≡ c = cc in
          rw (← t) q
      go up None q false f = clash (cc)

  or_none : (o : Option ℕ) → or_next o None ≡ o
  or_none (Some c) = refl
  or_none None = refl

  first_past : (n d : ℕ) → ((c : ℕ) → n ≤ c → p c ≡ false) → first_below p (d + n) ≡ first_below p n
  unfolding first_below
  first_past n zero h = rw zero-add refl
  first_past n (suc d) h = rw (suc-add, h (d + n) (omega arith), first_past n d h) (or_none (first_below p n))

-- two tests that say the same below n
pub first_alike : (p q : ℕ → Bool) (n : ℕ) → ((c : ℕ) → c < n → p c ≡ q c) → first_below p n ≡ first_below q n
unfolding first_below
first_alike p q zero e = refl
first_alike p q (suc n) e = rw (first_alike p q n (λ c l. e c (omega arith)), e n (omega arith))

-- a test that says the same below n, and no from n on
pub first_same : (p q : ℕ → Bool) (n k : ℕ) → n ≤ k → ((c : ℕ) → c < n → p c ≡ q c) → ((c : ℕ) → n ≤ c → p c ≡ false) → first_below p k ≡ first_below q n
first_same p q n k l e f =
    let d : k - n + n ≡ k = omega arith in
    rw d at (first_past p n (k - n) f) ∙ first_alike p q n e

-- the library's first position among the first n elements
pub position_first : (p : ℕ → Bool) (xs : List ℕ) (n : ℕ) → n ≤ length xs → position p (take n xs) ≡ first_below (λ c. p (get_or xs c 0)) n
position_first p xs n h = go (first_below (λ c. p (get_or xs c 0)) n) refl
  where
    len : length (take n xs) ≡ n
    len = length-take-le n xs h

    go : (o : Option ℕ) → first_below (λ c. p (get_or xs c 0)) n ≡ o → position p (take n xs) ≡ o
    go (Some c) e =
        let f = first_some (λ c. p (get_or xs c 0)) n c e in
        let at : position_or_len p (take n xs) ≡ c =
        position_or_len_is p (take n xs) c 0 (rw len (omega (arith, f.0)))
        (λ k l. rw (get_or-take n xs k 0 (omega (arith, f.0, l))) (first_none (λ c. p (get_or xs c 0)) c k (first_least (λ c. p (get_or xs c 0)) n c e) l))
        (λ l. rw (get_or-take n xs c 0 f.0) f.1) in
        rw (at, len, lt-ltb c n f.0) refl
    go None e =
        let at : position_or_len p (take n xs) ≡ n =
        position_or_len_is p (take n xs) n 0 (rw len (omega arith))
        (λ k l. rw (get_or-take n xs k 0 l) (first_none (λ c. p (get_or xs c 0)) n k e l))
        (λ l. absurd (omega (arith, len, l))) in
        rw (at, len, le-ltb n n (omega arith)) refl
