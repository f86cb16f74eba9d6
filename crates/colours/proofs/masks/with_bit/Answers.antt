-- `colours::masks::with_bit` meets its contract: the branch's test says which law of bits holds.
use borrow.Author.Rules.{rules}
use mir.Syntax.{w64}
use Rattle.colours.proofs.Bits.{has_with, has_without}
use Rattle.colours.proofs.masks.with_bit.Goals as goal

pub returns-then-on : goal.returns-then-on
returns-then-on c j =
    rw (c.if-on.true, c.bit.ensures) (has_with c.args.mask c.args.c j)

pub returns-else-on : goal.returns-else-on
returns-else-on c j =
    rw (c.if-on.false, c.bit-else-on.ensures) (has_without w64 c.args.mask c.args.c j (search rules) c.requires)
