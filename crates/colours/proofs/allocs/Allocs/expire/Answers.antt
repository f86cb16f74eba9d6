-- `colours::allocs::Allocs::expire` meets its contract: the bit of the source's colour is set where its life is at most i.
use mathlib.Core.Path.{refl}
use native.Mathlib.Omega.{arith}
use borrow.Author.Tests.{lt-ltb, le-ltb}
use Rattle.colours.proofs.Expiring.{expired_named, expired_later, expired_now}
use Rattle.colours.proofs.allocs.Allocs.expire.Goals as goal
use Rattle.colours.proofs.allocs.Allocs.expire.Goals.{else-w-lt256-via-then-w-lt256+else-self-w, else-w-lt256-via-else-w-lt256}

pub returns-then-self-w : goal.returns-then-self-w
returns-then-self-w c =
    expired_now c.args.self.now c.args.w c.args.i (lt-ltb _ _ c.if-w-lt256.true) c.if-self-w.true c.with_bit-self.ensures refl refl refl refl

pub returns-else-w-lt256 : goal.returns-else-w-lt256
returns-else-w-lt256 c =
    elim c.else-w-lt256.branch [
      | else-w-lt256-via-then-w-lt256+else-self-w w ↦ expired_later c.args.self.now c.args.w c.args.i (omega (arith, w.if-self-w.false))
      | else-w-lt256-via-else-w-lt256 w ↦ expired_named c.args.self.now c.args.w c.args.i (le-ltb _ _ (omega (arith, w.if-w-lt256.false)))
    ]
