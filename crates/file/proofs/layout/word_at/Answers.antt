-- `file::layout::word_at` meets its contract: the four bytes, lowest first, are the word.
-- By what the library says of bytes in this order.
use mathlib.Core.Path.{◌∙◌}
use native.Mathlib.Omega.{arith}
use Rattle.file.specs.File.{word_in}
use Rattle.file.proofs.layout.word_at.Goals as goal

pub returns : goal.returns
unfolding word_in
returns c = c.from_le_bytes.ensures ∙ omega arith
