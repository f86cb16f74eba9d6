-- Of two colours, that there are masks.
-- The bits past the second by the law of digits past a word's.
use Prim.Native.Nat.{ℕ, zero, suc, ◌<◌, ◌≤◌}
use mathlib.Core.Bool.{false, not}
use mathlib.Core.Path.{◌≡◌, refl, sym, ap, ◌∙◌}
use native.Mathlib.Omega.{arith}
use Rattle.passes.specs.declared.alloc.Alloc.{Alloc}
use Rattle.passes.specs.Color.{colour_at, is_nothing}
use Rattle.theorems.proofs.Locations.{blank_at}
use Rattle.colours.specs.MaskCases.{two}
use Rattle.colours.specs.Masks.{has_bit, Masked}
use Rattle.colours.proofs.Bits.{has_past}

high : (word : ℕ) → word < 4 → (c : ℕ) → has_bit word (suc (suc c)) ≡ false
high word h c = has_past 2 word (suc (suc c)) h (omega arith)

held_bits : (c : ℕ) → has_bit 1 c ≡ not (is_nothing (colour_at two c).loc)
held_bits zero = refl
held_bits (suc zero) = refl
held_bits (suc (suc c)) = high 1 (omega arith) c ∙ sym (ap (λ (a : Alloc). not (is_nothing a.loc)) (blank_at 62 c))

pub masked_there : Masked 2 4 (record { free = 2; held = 1 }) two
masked_there =
    record {
      few = omega arith;
      size = refl;
      held = held_bits;
      held_within = past 1 (omega arith);
      free = free_bits;
      free_within = past 2 (omega arith);
    }
  where
    past : (word : ℕ) → word < 4 → (c : ℕ) → 2 ≤ c → has_bit word c ≡ false
    past word h c l = has_past 2 word c h l

    free_bits : (c : ℕ) → c < 2 → has_bit 2 c ≡ lib.Dec.leb (colour_at two c).life 4
    free_bits zero l = refl
    free_bits (suc zero) l = refl
    free_bits (suc (suc c)) l = absurd (omega arith)
