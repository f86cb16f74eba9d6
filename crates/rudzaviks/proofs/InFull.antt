-- What the promises say, in full.
-- By the verdict: it passed, or it refused.
use Prim.Native.Nat.{ℕ, ◌+◌, ◌*◌, ◌^◌}
use mathlib.Core.List.{List}
use mathlib.Core.Path.{◌≡◌, ap, ◌∙◌}
use lib.ListN.{take}
use Rattle.mir.specs.declared.config.Settings.{Settings}
use Rattle.mir.specs.Answers.{Verdict, Passed, Refused, unless}
use Rattle.passes.specs.declared.alloc.Outcome.TheVariants.{Kept}
use Rattle.passes.specs.Contract.{count_of, counts_of}
use Rattle.passes.proofs.InFull.{promise_in_full}
use Rattle.walks.specs.Lent.{Lent}
use Rattle.allocator.proofs.InFull.{starts, stays}
use Rattle.file.specs.File.{words_in, settings_in, table_in, list_in, file_counts}
use Rattle.rudzaviks.specs.Exports.{RudzaviksOptimizeBy, RudzaviksReduceBy, report_word, records_word}
use Rattle.rudzaviks.specs.InFull.{OptimizeSays, ReduceSays}

-- the word where the verdict passed, and where it refused
records_said : (s : Settings) (list table : List ℕ) {v : Verdict} {given : ℕ} → given ≡ report_word records_word (unless v (counts_of s list table))
    → v ≡ Passed → given ≡ count_of Kept s list table
unfolding counts_of
records_said s list table h q = h ∙ ap (λ u. report_word records_word (unless u (counts_of s list table))) q

refused_word : {v : Verdict} (values : List ℕ) {given number index : ℕ} → given ≡ report_word records_word (unless v values)
    → v ≡ Refused number index → given ≡ number * 2 ^ 32 + index
refused_word values h q = h ∙ ap (λ u. report_word records_word (unless u values)) q

pub optimize_in_full : (v : Verdict) (s : Settings) (list table : List ℕ) (held : Lent) (held_counts : List ℕ) (now : Lent) (now_counts : List ℕ) (given : ℕ)
    → RudzaviksOptimizeBy v s list table held held_counts now now_counts given → OptimizeSays v s list table held held_counts now now_counts given
optimize_in_full v s list table held held_counts now now_counts given p =
    record {
      accepted = λ q.
          record {
            word = records_said s list table p.word q;
            out = starts _ held.out p.out q;
            colours = starts _ held.colours p.colours q;
            ends = starts _ held.ends p.ends q;
            set = starts _ held.set p.set q;
            counts = starts _ held_counts p.counts q;
            promise = promise_in_full v s list table (take (given * 8) now.out) p.keeps q;
          };
      rejected = λ number index q.
          record {
            word = refused_word (counts_of s list table) p.word q;
            out = stays _ held.out p.out q;
            colours = stays _ held.colours p.colours q;
            ends = stays _ held.ends p.ends q;
            set = stays _ held.set p.set q;
            counts = stays _ held_counts p.counts q;
          };
    }

pub reduce_in_full : (v : Verdict) (file held now : List ℕ) (given : ℕ) → RudzaviksReduceBy v file held now given → ReduceSays v file held now given
reduce_in_full v file held now given p =
    record {
      accepted = λ q.
          record {
            word = records_said (settings_in file) (list_in file) (table_in file) p.word q;
            out = starts _ held p.out q;
            promise =
                promise_in_full v (settings_in file) (list_in file) (table_in file) (words_in now 1 (given * 8)) p.keeps q;
          };
      rejected = λ number index q. record { word = refused_word (file_counts file) p.word q; out = stays _ held p.out q };
    }
