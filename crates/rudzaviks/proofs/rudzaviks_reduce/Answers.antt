-- `rudzaviks::rudzaviks_reduce` meets its contract: a file that is not well formed is refused by 3, any other by its sections.
-- By the promise of either case.
use mathlib.Core.Path.{sym, ◌∙◌}
use Rattle.rudzaviks.proofs.ReduceBytes.{bad_bytes}
use Rattle.rudzaviks.proofs.rudzaviks_reduce.Goals as goal

pub returns-in-None : goal.returns-in-None
returns-in-None c =
    let layout = sym c.layout_of.ensures ∙ c.in-None.is in
    rw (c.refusal_word.ensures, c.of_list.ensures) (bad_bytes layout)
