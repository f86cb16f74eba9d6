-- `rudzaviks::reduce_bytes` meets its contract: the words that the sections were reduced to go out as bytes.
-- An answer comes of a verdict that passed, so the words are the reduced list and there is room for them.
use mathlib.Core.Path.{sym, ap, ◌∙◌}
use native.Mathlib.Omega.{arith}
use lib.ListN.{replicate}
use Rattle.walks.specs.Lent.{report}
use Rattle.file.proofs.Sections.{sections}
use Rattle.rudzaviks.proofs.ReduceBytes.{words_left, written_promise, refused_bytes}
use Rattle.rudzaviks.proofs.reduce_bytes.Goals as goal

pub reduce_sections-requires : goal.reduce_sections-requires
reduce_sections-requires c =
    record {
      file_value = c.requires;
      records_in_bounds = λ r. omega (arith, sections c.requires);
    }

pub slice_bounds-words-end : goal.slice_bounds-words-end
slice_bounds-words-end c =
    omega (arith, (words_left (replicate 4096 0) c.requires c.in-Ok.is c.reduce_sections.ensures.answer c.reduce_sections.ensures.out).few, c.reduce_sections.auto.out)

pub slice_bounds-write_words-end : goal.slice_bounds-write_words-end
slice_bounds-write_words-end c = sym (words_left (replicate 4096 0) c.requires c.in-Ok.is c.reduce_sections.ensures.answer c.reduce_sections.ensures.out).count

pub write_words-requires : goal.write_words-requires
write_words-requires c = (words_left (replicate 4096 0) c.requires c.in-Ok.is c.reduce_sections.ensures.answer c.reduce_sections.ensures.out).fit

pub returns-in-Ok : goal.returns-in-Ok
returns-in-Ok c =
    rw c.from.ensures (written_promise (words_left (replicate 4096 0) c.requires c.in-Ok.is c.reduce_sections.ensures.answer c.reduce_sections.ensures.out) c.write_words.ensures)

pub returns-in-Err : goal.returns-in-Err
returns-in-Err c =
    rw c.refusal_word.ensures (refused_bytes (sections c.requires) (ap report (sym c.in-Err.is) ∙ c.reduce_sections.ensures.answer))

pub overflow_mul-room : goal.overflow_mul-room
overflow_mul-room c = omega (arith, sections c.requires)

pub overflow_add-room : goal.overflow_add-room
overflow_add-room c = omega (arith, sections c.requires)
