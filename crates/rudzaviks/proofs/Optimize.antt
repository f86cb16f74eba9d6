-- The promise of `rudzaviks_optimize`, from that of `optimize_words` and from the slice of counts.
-- Its verdict is that of `optimize_words` if the counts have room, and otherwise a refusal.
use Prim.Native.Nat.{ℕ, ◌*◌, ◌<◌, ◌≤◌}
use mathlib.Core.Bool.{false, and-true, and-false}
use mathlib.Core.List.{List, []}
use mathlib.Core.Path.{◌≡◌, sym, ap, ◌∙◌}
use lib.ListN.{length, take}
use borrow.Author.Tests.{le-leb, lt-leb}
use Rattle.std.specs.Prelude.{Result}
use Rattle.mir.specs.declared.refusal.Refusal.{Refusal}
use Rattle.walks.specs.declared.Counts.{Counts}
use Rattle.walks.specs.Lent.{Lent}
use Rattle.allocator.specs.Optimize.{OptimizedWords, room_in_words, verdict_of_words, records_in}
use Rattle.walks.specs.Lent.{report}
use Rattle.passes.specs.Contract.{counts_of}
use Rattle.passes.specs.Machine.{Keeps}
use Rattle.mir.specs.declared.config.Settings.{Settings}
use Rattle.mir.specs.Answers.{Verdict}
use Rattle.mir.specs.Answers.{Passed, Refused}
use Rattle.mir.specs.Answers.{unless}
use Rattle.mir.proofs.Clash.{clash}
use Rattle.mir.specs.Questions.{start_refusal}
use Rattle.mir.proofs.Passing.{room_passes, refusal_without}
use Rattle.rudzaviks.proofs.Written.{written, left_by}
use Rattle.rudzaviks.specs.Exports.{RudzaviksOptimize, verdict_with, report_word, records_word}

-- the same verdict, and where it passed the same records
keeps_along : {v w : Verdict} {s : Settings} {a table b c : List ℕ} → v ≡ w → (w ≡ Passed → b ≡ c) → Keeps v s a table b → Keeps w s a table c
keeps_along e f k = record { pools = λ q. k.pools (e ∙ q); runs = λ q. rw (← f q) (k.runs (e ∙ q)) }

module _ {s : Settings} {list table : List ℕ} {held : Lent} {counts : List ℕ} where
  -- an answer as `optimize_words` gave it
  pub entry_answered : {now : Lent} {result given : Result Counts Refusal} {now_counts : List ℕ} → 8 ≤ length counts
      → OptimizedWords s list table held now result → result ≡ given → now_counts ≡ written (λ values. values) (report given) counts
      → RudzaviksOptimize s list table held counts now now_counts (report_word records_word (report given))
  unfolding verdict_of_words verdict_with
  entry_answered {now = now} {result = result} {given = given} h p g c =
      let e : verdict_of_words s list table held ≡ verdict_with s list table held counts = rw (le-leb 8 (length counts) h, and-true (room_in_words list table held)) in
      let n : (verdict_with s list table held counts ≡ Passed) → records_in (report result) ≡ report_word records_word (report given) = λ q. cc in
      record {
        word = cc;
        out = cc;
        colours = cc;
        ends = cc;
        set = cc;
        counts = cc (left_by (λ values. values) (verdict_with s list table held counts) (counts_of s list table) counts);
        keeps = keeps_along e (λ q. ap (λ k. take (k * 8) now.out) (n q)) p.keeps;
      }

  -- no room for the counts
  pub entry_short : (w : Verdict) → length counts < 8 → w ≡ start_refusal false s (length list) (length table)
      → RudzaviksOptimize s list table held counts held counts (report_word records_word (unless w []))
  unfolding verdict_with
  entry_short Passed h e = clash (cc (room_passes false s list table (refusal_without s list table ∙ sym e)))
  entry_short (Refused number index) h e =
      let f : verdict_with s list table held counts ≡ Refused number index = rw (lt-leb 8 (length counts) h, and-false (room_in_words list table held)) (refusal_without s list table ∙ sym e) in
      record {
        word = rw f;
        out = rw f;
        colours = rw f;
        ends = rw f;
        set = rw f;
        counts = rw f;
        keeps = record { pools = λ q. clash (cc); runs = λ q. clash (cc) };
      }
