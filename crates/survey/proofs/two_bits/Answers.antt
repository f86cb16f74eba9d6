-- `survey::two_bits` meets its contract: both registers are Gen, or neither counts.
use mathlib.Core.Path.{sym}
use Rattle.mir.specs.Records.{max_regs}
use Rattle.mir.proofs.Masks.{bit_is}
use Rattle.survey.proofs.Masks.{mask_two, mask_named, mask_second_named}
use Rattle.survey.proofs.two_bits.Goals as goal

pub returns-then-x-ge256 : goal.returns-then-x-ge256
returns-then-x-ge256 c = sym (mask_named _ _ c.if-x-ge256.true)

pub returns-then-y-ge256 : goal.returns-then-y-ge256
returns-then-y-ge256 c = sym (mask_second_named _ _ c.if-x-ge256.false c.if-y-ge256.true)

pub returns : goal.returns
returns c =
    rw (bit_is max_regs _ (c.requires.x_lt_max_regs c.if-x-ge256.false), bit_is max_regs _ (c.requires.y_lt_max_regs c.if-y-ge256.false))
    (sym (mask_two _ _ c.if-x-ge256.false c.if-y-ge256.false))
