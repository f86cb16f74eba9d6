-- `file::reduce::reduce_sections` meets its contract: the sections are read whole, and reduced.
-- The working space holds any list and table of a well-formed file.
use Prim.Native.Nat.{ℕ}
use mathlib.Core.Path.{sym}
use native.Mathlib.Omega.{arith}
use lib.ListN.{replicate, length-replicate}
use Rattle.file.proofs.FileVerdict.{good_verdict}
use Rattle.file.proofs.Sections.{sections, table_read, list_read}
use Rattle.file.proofs.reduce.reduce_sections.Goals as goal

pub read_words-requires : goal.read_words-requires
read_words-requires c =
    let h = sections c.requires.file_value in
    record {
      bytes_bound = omega (arith, h.size);
      out_room = rw (length-replicate {A = ℕ} 1024 0) (omega (arith, h.few_pairs));
    }

pub read_words-requires-2 : goal.read_words-requires-2
read_words-requires-2 c =
    let h = sections c.requires.file_value in
    record {
      bytes_bound = omega (arith, h.size);
      out_room = rw (length-replicate {A = ℕ} 4096 0) (omega (arith, h.few_records));
    }

pub slice_bounds-list-end : goal.slice_bounds-list-end
slice_bounds-list-end c = omega (arith, (sections c.requires.file_value).few_records, c.read_words-2.auto.out, length-replicate {A = ℕ} 4096 0)

pub slice_bounds-reduce_list-end : goal.slice_bounds-reduce_list-end
slice_bounds-reduce_list-end c = sym (list_read _ (replicate 4096 0) _ c.requires.file_value c.read_words-2.ensures).count

pub slice_bounds-table-end : goal.slice_bounds-table-end
slice_bounds-table-end c = omega (arith, (sections c.requires.file_value).few_pairs, c.read_words.auto.out, length-replicate {A = ℕ} 1024 0)

pub slice_bounds-reduce_list-end-2 : goal.slice_bounds-reduce_list-end-2
slice_bounds-reduce_list-end-2 c = sym (table_read _ (replicate 1024 0) _ c.requires.file_value c.read_words.ensures).count

pub returns : goal.returns
returns c =
    let verdict = good_verdict (sections c.requires.file_value) c.args.room in
    let list = list_read _ (replicate 4096 0) _ c.requires.file_value c.read_words-2.ensures in
    let table = table_read _ (replicate 1024 0) _ c.requires.file_value c.read_words.ensures in
    rw (← verdict, ← c.settings_at-settings.ensures, ← list.are, ← table.are) c.reduce_list.ensures

pub settings_at-settings-requires : goal.settings_at-settings-requires
settings_at-settings-requires c = omega (arith, sections c.requires.file_value)

pub overflow_mul-pair_words : goal.overflow_mul-pair_words
overflow_mul-pair_words c = omega (arith, sections c.requires.file_value)

pub overflow_mul-list_words : goal.overflow_mul-list_words
overflow_mul-list_words c = omega (arith, sections c.requires.file_value)

pub overflow_add-pair_words : goal.overflow_add-pair_words
overflow_add-pair_words c = omega (arith, sections c.requires.file_value)
