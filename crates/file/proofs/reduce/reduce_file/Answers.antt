-- `file::reduce::reduce_file` meets its contract: a file that is not well formed is refused by 3, any other by its sections.
-- By the promise of either case.
use mathlib.Core.Path.{sym, ◌∙◌}
use native.Mathlib.Omega.{arith}
use Rattle.file.proofs.reduce.Promise.{words_promise, bad_promise}
use Rattle.file.proofs.Sections.{sections}
use Rattle.file.proofs.reduce.reduce_file.Goals as goal

pub overflow_mul-room : goal.overflow_mul-room
overflow_mul-room c = omega (arith, sections (sym c.layout_of.ensures ∙ c.in-Some.is))

pub returns : goal.returns
returns c =
    let h = sections (sym c.layout_of.ensures ∙ c.in-Some.is) in
    words_promise (rw h.records_are at c.reduce_sections.ensures.answer) (rw h.records_are at c.reduce_sections.ensures.out)

pub returns-in_default : goal.returns-in_default
returns-in_default c = rw c.of_list.ensures (bad_promise (sym c.layout_of.ensures ∙ c.in_default.is))
