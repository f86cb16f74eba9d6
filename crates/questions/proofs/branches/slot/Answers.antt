-- `questions::branches::slot` meets its contract: the definition's slot, below 512.
-- A remainder by 512 is.
use mathlib.Core.Path.{refl}
use borrow.Author.Rules.{rules}
use Rattle.questions.specs.Table.{slot_of}
use Rattle.questions.proofs.branches.slot.Goals as goal

pub returns : goal.returns
unfolding slot_of
returns c =
    record {
      is = rw c.from.ensures refl;
      below = search rules;
    }
