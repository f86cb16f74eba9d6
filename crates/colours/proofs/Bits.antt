-- The bits of a word as tests: of no word and past a word's digits, of the largest words, of a bit set, of a word without another's bits,
-- and which bit is the lowest.
-- By the library's laws of one bit.
use Rattle.std.specs.Prelude.{Some}
use Prim.Native.Nat.{ℕ, zero, suc, ◌-◌, ◌^◌, ◌<◌, ◌≤◌, min}
use mathlib.Core.Bool.{Bool, true, false, cond, ◌&&◌, not, and-true, and-false}
use mathlib.Core.Path.{◌≡◌, refl, sym, ap, ◌∙◌}
use native.Mathlib.Decide.{dec_lt}
use native.Mathlib.Omega.{arith}
use mir.Syntax.{Width}
use mir.Val.{bits}
use lib.Bits.{bit_and, bit_or}
use lib.Dec.{ltb, eqb}
use lib.Pow.{pow-lt}
use borrow.Author.Tests.{lt-ltb, le-ltb, eq-eqb, ne_eqb, eqb-true, eqb-false}
use Rattle.std.specs.Int.{bit_at, bit_not, trailing_zeros}
use Rattle.std.proofs.lemmas.Nat.Bits.{bit_at-zero, bit_at-lt, bit_at_and, bit_at_or, bit_at_not, bit_at_above, bit_at_ones, bit_at_ones_above}
use Rattle.std.proofs.lemmas.Nat.Bits.{bit_at-pow_same, bit_at-pow_other, bit_at-trailing_zeros}
use Rattle.passes.specs.Color.{first_below}
use Rattle.colours.specs.Masks.{has_bit}
use Rattle.colours.proofs.Search.{first_absent, first_stops}

-- the test of a bit that is known
is_set : (word j : ℕ) → bit_at word j ≡ 1 → has_bit word j ≡ true
is_set word j e = eq-eqb (bit_at word j) 1 e

is_clear : (word j : ℕ) → bit_at word j ≡ 0 → has_bit word j ≡ false
is_clear word j e = ne_eqb (bit_at word j) 1 (λ q. omega (arith, e, q))

pub has_none : (j : ℕ) → has_bit 0 j ≡ false
has_none j = is_clear 0 j (bit_at-zero j)

pub has_past : (k n j : ℕ) → n < 2 ^ k → k ≤ j → has_bit n j ≡ false
has_past k n j h l = is_clear n j (bit_at_above n k j h l)

pub has_ones : (n j : ℕ) → has_bit (2 ^ n - 1) j ≡ ltb j n
has_ones n j = go (dec_lt j n)
  where
    go : Dec (j < n) → has_bit (2 ^ n - 1) j ≡ ltb j n
    go (yes h) = is_set (2 ^ n - 1) j (bit_at_ones n j h) ∙ sym (lt-ltb j n h)
    go (no h) =
        let l : n ≤ j = omega (arith, h) in
        is_clear (2 ^ n - 1) j (bit_at_ones_above n j l) ∙ sym (le-ltb j n l)

-- ---- a word with a bit more, and a word without the bits of another

pub has_with : (n c j : ℕ) → has_bit (bit_or n (2 ^ c)) j ≡ cond (eqb j c) true (has_bit n j)
has_with n c j = go (eqb j c) refl
  where
    go : (b : Bool) → eqb j c ≡ b → has_bit (bit_or n (2 ^ c)) j ≡ cond b true (has_bit n j)
    go true e = rw (eqb-true j c e) (is_set (bit_or n (2 ^ c)) c (omega (arith, bit_at_or n (2 ^ c) c, bit_at-pow_same c, bit_at-lt n c)))
    go false e = ap (λ x. eqb x 1) (omega (arith, bit_at_or n (2 ^ c) j, bit_at-pow_other c j (eqb-false j c e)))

pub has_but : (w : Width) (n m j : ℕ) → n < 2 ^ bits w → m < 2 ^ bits w → has_bit (bit_and n (bit_not w m)) j ≡ (has_bit n j && not (has_bit m j))
has_but w n m j h l = go (dec_lt j (bits w))
  where
    both : (a b : ℕ) → a < 2 → b < 2 → eqb (min a (1 - b)) 1 ≡ (eqb a 1 && not (eqb b 1))
    both zero zero h k = refl
    both zero (suc zero) h k = refl
    both (suc zero) zero h k = refl
    both (suc zero) (suc zero) h k = refl
    both zero (suc (suc b)) h k = absurd (omega arith)
    both (suc zero) (suc (suc b)) h k = absurd (omega arith)
    both (suc (suc a)) b h k = absurd (omega arith)

    go : Dec (j < bits w) → has_bit (bit_and n (bit_not w m)) j ≡ (has_bit n j && not (has_bit m j))
    go (yes q) =
        ap (λ x. eqb x 1) (bit_at_and n (bit_not w m) j ∙ ap (min (bit_at n j)) (bit_at_not w m j l q))
        ∙ both (bit_at n j) (bit_at m j) (bit_at-lt n j) (bit_at-lt m j)
    go (no q) =
        let none = bit_at_above n (bits w) j h (omega (arith, q)) in
        rw (is_clear n j none) (is_clear (bit_and n (bit_not w m)) j (omega (arith, bit_at_and n (bit_not w m) j, none)))

pub has_without : (w : Width) (n c j : ℕ) → n < 2 ^ bits w → c < bits w → has_bit (bit_and n (bit_not w (2 ^ c))) j ≡ cond (eqb j c) false (has_bit n j)
has_without w n c j h l = has_but w n (2 ^ c) j h (pow-lt l) ∙ go (eqb j c) refl
  where
    go : (b : Bool) → eqb j c ≡ b → (has_bit n j && not (has_bit (2 ^ c) j)) ≡ cond b false (has_bit n j)
    go true e = rw (eqb-true j c e, is_set (2 ^ c) c (bit_at-pow_same c)) (and-false (has_bit n c))
    go false e = rw (is_clear (2 ^ c) j (bit_at-pow_other c j (eqb-false j c e))) (and-true (has_bit n j))

-- ---- the lowest bit: as many zeros stand below it as are counted

pub lowest_first : (w : Width) (n : ℕ) → n < 2 ^ bits w → (n ≡ 0 → ⊥) → first_below (has_bit n) (bits w) ≡ Some (trailing_zeros w n)
lowest_first w n h any =
    let t = trailing_zeros w n in
    let low = bit_at-trailing_zeros w n (omega (arith, any)) h in
    first_stops (has_bit n) (bits w) t low.0 (first_absent (has_bit n) t (λ j l. is_clear n j (low.2 j l))) (is_set n t low.1)
