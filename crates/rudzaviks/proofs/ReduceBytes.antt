-- The promise of `rudzaviks_reduce`: a file reduced into bytes.
-- An answer comes of a verdict that passed, so the words are the reduced list, there is room for their bytes, and the bytes
-- are read back as the words; demand 3 is then the theorem, put to these.
use Prim.Native.Nat.{ℕ, ◌+◌, ◌*◌, ◌≤◌}
use mathlib.Core.List.{List, ◌∷◌}
use mathlib.Core.Path.{◌≡◌, sym, ap, ◌∙◌}
use native.Mathlib.Omega.{arith}
use lib.Dec.{leb}
use lib.ListN.{length, take, drop}
use borrow.Author.Tests.{leb-true}
use Rattle.walks.specs.declared.Counts.{Counts}
use Rattle.passes.specs.Contract.{counts_of}
use Rattle.mir.specs.Answers.{left}
use Rattle.walks.specs.Lent.{report}
use Rattle.walks.specs.Lent.{values_in}
use Rattle.mir.proofs.Over.{over_take}
use Rattle.mir.specs.Answers.{Verdict}
use Rattle.mir.specs.Answers.{Passed, Refused}
use Rattle.mir.specs.Answers.{over, answered, refused, unless}
use Rattle.mir.proofs.Clash.{clash}
use Rattle.std.specs.Prelude.{Some, None, Result, Ok}
use Rattle.file.specs.declared.layout.Layout.{Layout}
use Rattle.mir.specs.declared.refusal.Refusal.{Refusal}
use Rattle.rudzaviks.specs.Exports.{RudzaviksReduce, refusal_word, report_word, records_word, file_words, bytes_verdict}
use Rattle.file.specs.File.{words_in, bytes_of, record_count, layout_of, file_verdict, file_counts, file_reduced}
use Rattle.file.proofs.layout.Bytes.{words_back}
use Rattle.file.proofs.FileVerdict.{bad_verdict, accepted, kept, kept_size, kept_few, answered_passed, accepted_keeps}
use Rattle.file.proofs.Sections.{Sections, sections}
use Rattle.file.proofs.WordBounds.{reduced_small}

bytes_promise : {file held now : List ℕ} {given : ℕ} → given ≡ report_word records_word (unless (bytes_verdict file held) (file_counts file))
    → now ≡ left (bytes_verdict file held) (bytes_of (file_words file)) held → RudzaviksReduce file held now given
unfolding counts_of
bytes_promise {file} {held} {now} {given} a o =
    record {
      word = a;
      out = o;
      keeps = accepted_keeps accepted words_are;
    }
  where
    -- the records that the bytes now hold
    words_are : bytes_verdict file held ≡ Passed → words_in now 1 (given * 8) ≡ file_reduced file
    words_are v =
        let rest = drop (length (bytes_of (file_words file))) held in
        cc (kept_size file, words_back (kept file) (file_reduced file) rest (reduced_small _ _ _ (accepted v).passing))

-- ---- a refusal

refused_promise : {file held : List ℕ} {number index : ℕ} → bytes_verdict file held ≡ Refused number index
    → RudzaviksReduce file held held (refusal_word number index)
refused_promise v = bytes_promise (rw v) (rw v)

pub bad_bytes : {file held : List ℕ} → layout_of file ≡ None → RudzaviksReduce file held held (refusal_word 3 0)
bad_bytes {file} {held} e = refused_promise (bad_verdict (leb (4 + record_count file * 32) (length held)) file e)

refused_is : (v : Verdict) {number index : ℕ} (xs : List ℕ) → refused number index ≡ unless v xs → v ≡ Refused number index
refused_is Passed xs e = clash (cc)
refused_is (Refused number index) xs e = cc

pub refused_bytes : {file held : List ℕ} {pairs count number index : ℕ} → Sections file pairs count
    → refused number index ≡ unless (file_verdict (leb (4 + count * 32) (length held)) file) (file_counts file)
    → RudzaviksReduce file held held (refusal_word number index)
refused_bytes {file} {held} h a = refused_promise (refused_is (bytes_verdict file held) (file_counts file) (rw h.records_are at a))

-- ---- an answer

-- what the sections of a file were reduced to: the counts, and the words that the working space starts with
pub record Words (file held : List ℕ) (c : Counts) (last : List ℕ) : Type 0 where
  pub passed : bytes_verdict file held ≡ Passed
  pub records_are : c.tally.records ≡ kept file
  pub words_are : take (c.tally.records * 8) last ≡ file_reduced file
  pub few : c.tally.records ≤ 512
  pub count : length (take (c.tally.records * 8) last) ≡ c.tally.records * 8
  pub fit : 4 + length (take (c.tally.records * 8) last) * 4 ≤ length held

pub words : {file held : List ℕ} {pairs count : ℕ} {c : Counts} {last : List ℕ} (work : List ℕ) → Sections file pairs count
    → answered (values_in c) ≡ unless (file_verdict (leb (4 + count * 32) (length held)) file) (file_counts file)
    → last ≡ left (file_verdict (leb (4 + count * 32) (length held)) file) (file_reduced file) work → Words file held c last
words {file} {held} {c = c} {last = last} work h a o =
    let p = answered_passed (leb (4 + record_count file * 32) (length held)) file c (rw h.records_are at a) in
    let r = leb-true (4 + record_count file * 32) (length held) (accepted p.0).room_is in
    let n = p.1 in
    let w : take (c.tally.records * 8) last ≡ file_reduced file = cc (p.0, kept_size file, over_take (file_reduced file) work) in
    let k : length (take (c.tally.records * 8) last) ≡ c.tally.records * 8 = cc (kept_size file) in
    record {
      passed = p.0;
      records_are = n;
      words_are = w;
      few = omega (arith, kept_few h, h.few_records);
      count = k;
      fit = omega (arith, kept_few h, h.records_are);
    }

-- the same of what `reduce_sections` answers, with a working space that held any words
pub words_left : (work : List ℕ) {file held : List ℕ} {layout : Layout} {r : Result Counts Refusal} {c : Counts} {last : List ℕ} → layout_of file ≡ Some layout
    → r ≡ Ok c → report r ≡ unless (file_verdict (leb (4 + layout.records * 32) (length held)) file) (file_counts file)
    → last ≡ left (file_verdict (leb (4 + layout.records * 32) (length held)) file) (file_reduced file) work → Words file held c last
words_left work found e a o = words work (sections found) (ap report (sym e) ∙ a) o

pub written_promise : {file held now : List ℕ} {c : Counts} {last : List ℕ} → Words file held c last
    → now ≡ over (bytes_of (c.tally.records ∷ take (c.tally.records * 8) last)) held → RudzaviksReduce file held now c.tally.records
unfolding counts_of
written_promise w e = bytes_promise (rw w.passed w.records_are) (rw (w.passed, e, w.words_are, w.records_are))
