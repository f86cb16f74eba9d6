-- `colours::masks::lowest` meets its contract: the zeros below the lowest bit are counted; a word that is 0 has none.
use mathlib.Core.Path.{sym}
use borrow.Author.Rules.{rules}
use mir.Syntax.{w64}
use Rattle.mir.specs.Records.{max_regs}
use Rattle.colours.specs.Masks.{has_bit}
use Rattle.colours.proofs.Bits.{has_none, lowest_first}
use Rattle.colours.proofs.Search.{first_absent}
use Rattle.colours.proofs.masks.lowest.Goals as goal

pub returns-then-mask-eq0 : goal.returns-then-mask-eq0
returns-then-mask-eq0 c = rw c.if-mask-eq0.true (sym (first_absent (has_bit 0) max_regs (λ j l. has_none j)))

pub returns : goal.returns
returns c = sym (lowest_first w64 c.args.mask (search rules) c.if-mask-eq0.false)
