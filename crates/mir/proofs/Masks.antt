-- A mask's bit: a shift by less than the word's bits is a power of two.
-- By the library's laws of powers.
use Prim.Native.Nat.{ℕ, ◌*◌, ◌%◌, ◌^◌, ◌<◌}
use mathlib.Core.Path.{◌≡◌}
use native.Mathlib.Nat.{mod-eq_of_lt, one-mul}
use lib.Pow.{pow-lt}

-- a shift within a word of k bits
pub bit_is : (k w : ℕ) → w < k → 1 * 2 ^ w % 2 ^ k ≡ 2 ^ w
bit_is k w h = rw one-mul (mod-eq_of_lt (pow-lt h))
