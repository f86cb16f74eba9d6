-- How many colours are needed, by the ones of a word of bits: of n colours, those that are needed and those that are free are all.
-- By induction on the count: a word has one bit more than its part below that bit, and each colour is needed or free.
use Prim.Native.Nat.{ℕ, zero, suc, ◌+◌, ◌-◌, ◌/◌, ◌%◌, ◌^◌, ◌<◌, ◌≤◌}
use mathlib.Core.Bool.{Bool, true, false, cond}
use mathlib.Core.List.{List}
use mathlib.Core.Path.{◌≡◌, refl, ap, ◌∙◌}
use native.Mathlib.Nat.{zero-add, suc-add}
use native.Mathlib.Numerals.{add-one}
use native.Mathlib.Omega.{arith}
use lib.Dec.{leb, ltb, eqb}
use lib.Count.{ones, ones_cat, ones-le}
use lib.ListN.{length}
use lib.Pow.{mod-pow-add, pow_pos}
use Rattle.std.proofs.Common.{mod-lt}
use Rattle.std.proofs.Math.Nat.{mod-eq_of_lt}
use borrow.Author.Tests.{lt-ltb, le-ltb, leb-true, leb-false}
use Rattle.std.specs.Prelude.{None, count_ones}
use Rattle.std.proofs.lemmas.List.Sums.{sum_by_more}
use Rattle.mir.specs.Records.{max_regs}
use Rattle.passes.specs.declared.alloc.Alloc.{Alloc}
use Rattle.passes.specs.Color.{alloc, colour_at, needed}
use Rattle.colours.specs.declared.masks.Masks.{Masks}
use Rattle.colours.specs.Masks.{has_bit, Masked}

-- ---- the ones of a word, bit by bit

one_bit : (b : ℕ) → b < 2 → count_ones b ≡ cond (eqb b 1) 1 0
unfolding ones
one_bit zero h = refl
one_bit (suc zero) h = refl
one_bit (suc (suc b)) h = absurd (omega arith)

ones_more : (word k : ℕ) → count_ones (word % 2 ^ suc k) ≡ count_ones (word % 2 ^ k) + cond (has_bit word k) 1 0
ones_more word k =
    let b = word / 2 ^ k % 2 in
    ap (λ j. count_ones (word % 2 ^ j)) (omega arith)
    ∙ (ap count_ones (mod-pow-add word 1 k)
    ∙ (ones_cat k b (word % 2 ^ k) (mod-lt word (pow_pos k))
    ∙ omega (arith, one_bit b (mod-lt (word / 2 ^ k) (omega arith)))))

-- ---- each colour is needed or free

module _ {n i : ℕ} {m : Masks} {allocs : List Alloc} (h : Masked n i m allocs) where
  both : (k : ℕ) → k ≤ n → needed k i allocs + count_ones (m.free % 2 ^ k) ≡ k
  both zero l = omega (arith, ones-le 0 (m.free % 2 ^ 0) (omega arith))
  both (suc k) l =
      let inside : k < length allocs = omega (arith, h.size, h.few) in
      omega (
        arith,
        both k (omega arith),
        ones_more m.free k,
        rw (add-one k) at (sum_by_more (λ (a : Alloc). cond (ltb i a.life) 1 0) allocs k (alloc 0 None) inside),
        go (leb (colour_at allocs k).life i) refl,
      )
    where
      go : (b : Bool) → leb (colour_at allocs k).life i ≡ b → cond {A = ℕ} (ltb i (colour_at allocs k).life) 1 0 + cond (has_bit m.free k) 1 0 ≡ 1
      go true e = rw (h.free k (omega arith) ∙ e, le-ltb i (colour_at allocs k).life (leb-true (colour_at allocs k).life i e)) refl
      go false e = rw (h.free k (omega arith) ∙ e, lt-ltb i (colour_at allocs k).life (leb-false (colour_at allocs k).life i e)) refl

  past : (d : ℕ) → count_ones (m.free % 2 ^ (d + n)) ≡ count_ones (m.free % 2 ^ n)
  past zero = rw zero-add refl
  past (suc d) = rw suc-add (omega (arith, ones_more m.free (d + n), ap {B = ℕ} (λ b. cond b 1 0) (h.free_within (d + n) (omega arith)), past d))

  pub needed_or_free : m.free < 2 ^ max_regs → needed n i allocs + count_ones m.free ≡ n
  needed_or_free w =
      let d : max_regs - n + n ≡ max_regs = omega (arith, h.few) in
      omega (arith, both n (omega arith), past (max_regs - n), ap (λ k. count_ones (m.free % 2 ^ k)) d, ap count_ones (mod-eq_of_lt w))
