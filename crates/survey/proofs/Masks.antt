-- The mask of used registers: which bits a record counts, and a mask's ones are counted in as many digits as it has.
-- By the library's laws of `bit_or` and of `ones`.
use Prim.Native.Nat.{ℕ, zero, suc, ◌+◌, ◌/◌, ◌%◌, ◌^◌, ◌≤◌, ◌<◌}
use mathlib.Core.List.{List, [], ◌∷◌}
use mathlib.Core.Path.{◌≡◌, sym, ap, ◌∙◌}
use native.Mathlib.Omega.{arith}
use lib.Bits.{bit_or, or_zero_r}
use lib.Count.{ones, ones_in, ones_step}
use lib.ListN.{length}
use borrow.Author.Tests.{lt-ltb, le-ltb, eq-eqb, ne_eqb}
use Rattle.survey.specs.Beside.{bits, counted, mask_of, get_dst}
use Rattle.mir.specs.Records.{word_at}
use Rattle.mir.specs.Shapes.{branch_if, shape_of, dests, sources}
use Rattle.mir.proofs.Shapes.{sources_are}

pub mask_one : (w : ℕ) → w < 256 → mask_of (w ∷ []) ≡ 2 ^ w
unfolding mask_of bits
mask_one w h = rw (lt-ltb w 256 h) (or_zero_r (2 ^ w))

pub mask_named : (w : ℕ) (ws : List ℕ) → 256 ≤ w → mask_of (w ∷ ws) ≡ 0
unfolding mask_of
mask_named w ws h = rw (le-ltb w 256 h)

pub mask_two : (x y : ℕ) → x < 256 → y < 256 → mask_of (x ∷ y ∷ []) ≡ bit_or (2 ^ x) (2 ^ y)
unfolding mask_of bits
mask_two x y h k = rw (lt-ltb x 256 h, lt-ltb y 256 k, or_zero_r (2 ^ y))

pub mask_second_named : (x y : ℕ) → x < 256 → 256 ≤ y → mask_of (x ∷ y ∷ []) ≡ 0
unfolding mask_of
mask_second_named x y h k = rw (lt-ltb x 256 h, le-ltb y 256 k)

-- BranchIf counts its condition, every other kind its destinations
pub branch_if_source : (rec : List ℕ) → length rec ≡ 8 → word_at rec 0 ≡ branch_if → sources rec ≡ word_at rec 1 ∷ []
unfolding shape_of
branch_if_source rec len e = sources_are rec (shape_of branch_if) (ap shape_of (sym e)) len

pub counts_condition : (rec : List ℕ) → length rec ≡ 8 → word_at rec 0 ≡ branch_if → get_dst rec ≡ mask_of (word_at rec 1 ∷ [])
unfolding get_dst counted
counts_condition rec len e = rw (eq-eqb (word_at rec 0) branch_if e, branch_if_source rec len e)

pub counts_dests : (rec : List ℕ) → (word_at rec 0 ≡ branch_if → ⊥) → get_dst rec ≡ mask_of (dests rec)
unfolding get_dst counted
counts_dests rec h = rw (ne_eqb (word_at rec 0) branch_if h)

-- the ones of a word of k digits are those of its k lowest digits
pub ones_digits : (k n : ℕ) → n < 2 ^ k → ones n ≡ ones_in k n
unfolding ones ones_in
ones_digits zero n h =
    let e : n ≡ 0 = omega arith in
    rw e
ones_digits (suc k) n h = ones_step n ∙ ap (λ (x : ℕ). n % 2 + x) (ones_digits k (n / 2) (omega arith))
