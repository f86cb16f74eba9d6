-- `colours::masks::first_bits` meets its contract: the largest word below a power of two has the bits below it.
use Prim.Native.Nat.{◌*◌, ◌%◌, ◌^◌}
use mathlib.Core.Path.{◌≡◌}
use native.Mathlib.Omega.{arith}
use Rattle.mir.proofs.Masks.{bit_is}
use Rattle.mir.specs.Records.{max_regs}
use Rattle.colours.proofs.Bits.{has_ones}
use Rattle.colours.proofs.masks.first_bits.Goals as goal

pub returns-then-n-eq64 : goal.returns-then-n-eq64
returns-then-n-eq64 c j = rw c.if-n-eq64.true (has_ones max_regs j)

pub returns-else-n-eq64 : goal.returns-else-n-eq64
returns-else-n-eq64 c j =
    -- the shift, where it is less than the width
    let shifted : let n = c.args.n in 1 * 2 ^ n % 2 ^ max_regs ≡ 2 ^ n =
    bit_is max_regs c.args.n (omega (arith, c.if-n-eq64.false)) in
    rw shifted (has_ones c.args.n j)
