-- `survey::bit` meets its contract: the shift by a register below the limit is its power of two.
use mathlib.Core.Path.{sym, ◌∙◌}
use Rattle.mir.specs.Records.{max_regs}
use Rattle.mir.proofs.Masks.{bit_is}
use Rattle.survey.proofs.Masks.{mask_one, mask_named}
use Rattle.survey.proofs.bit.Goals as goal

pub returns-then-w-lt256 : goal.returns-then-w-lt256
returns-then-w-lt256 c = bit_is max_regs _ (c.requires c.if-w-lt256.true) ∙ sym (mask_one _ c.if-w-lt256.true)

pub returns-else-w-lt256 : goal.returns-else-w-lt256
returns-else-w-lt256 c = sym (mask_named _ _ c.if-w-lt256.false)
