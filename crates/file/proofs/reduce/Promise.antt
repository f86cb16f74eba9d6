-- The promise of `reduce_file`, and that a file so reduced has few records.
-- The runs are by the theorem, put to the words that the output starts with.
use Prim.Native.Nat.{ℕ, ◌*◌, ◌≤◌}
use mathlib.Core.List.{List}
use mathlib.Core.Path.{◌≡◌}
use native.Mathlib.Omega.{arith}
use lib.Dec.{leb}
use lib.ListN.{length}
use Rattle.std.specs.Prelude.{Result, Ok, Err, None}
use Rattle.mir.specs.declared.refusal.Question.TheVariants.{Lengths}
use Rattle.mir.specs.declared.refusal.Refusal.{Refusal}
use Rattle.walks.specs.declared.Counts.{Counts}
use Rattle.passes.specs.Contract.{counts_of}
use Rattle.mir.specs.Answers.{left}
use Rattle.walks.specs.Lent.{report}
use Rattle.mir.proofs.Over.{over_take}
use Rattle.mir.specs.Answers.{refusal_of, unless}
use Rattle.file.specs.File.{FileReduced, record_count, layout_of, file_counts, file_reduced, words_verdict}
use Rattle.file.proofs.FileVerdict.{bad_verdict, accepted, kept_size, kept_few, answered_passed, accepted_keeps}
use Rattle.file.proofs.Sections.{well_sections}

module _ {file held : List ℕ} where
  pub words_promise : {now : List ℕ} {given : Result Counts Refusal} → report given ≡ unless (words_verdict file held) (file_counts file)
      → now ≡ left (words_verdict file held) (file_reduced file) held → FileReduced file held now given
  unfolding counts_of
  words_promise a o =
      record {
        answer = a;
        out = o;
        keeps = accepted_keeps accepted (λ v. cc (kept_size file, over_take (file_reduced file) held));
      }

  -- of a file that is not well formed
  pub bad_promise : layout_of file ≡ None → FileReduced file held held (Err (refusal_of Lengths 0))
  bad_promise e =
      let v = bad_verdict (leb (record_count file * 8) (length held)) file e in
      words_promise (rw v) (rw v)

  -- a reduced file has at most 512 records
  pub few_in_file : {now : List ℕ} {given : Result Counts Refusal} {c : Counts} → FileReduced file held now given → given ≡ Ok c → c.tally.records ≤ 512
  few_in_file {c = c} f g =
      let p = answered_passed (leb (record_count file * 8) (length held)) file c (cc) in
      let h = well_sections (accepted p.0).well in
      omega (arith, kept_few h, h.few_records)
