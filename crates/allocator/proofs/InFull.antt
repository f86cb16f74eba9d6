-- What the promises say, in full.
-- By the verdict: it passed, or it refused.
use Prim.Native.Nat.{ℕ, ◌*◌}
use mathlib.Core.List.{List, ◌++◌}
use mathlib.Core.Path.{◌≡◌, subst, ap, ◌∙◌}
use lib.ListN.{length, take, drop}
use Rattle.std.specs.Prelude.{Result}
use Rattle.mir.specs.declared.config.Settings.{Settings}
use Rattle.mir.specs.declared.refusal.Refusal.{Refusal}
use Rattle.mir.specs.Answers.{Verdict, Passed, Refused, Report, answered, refused, unless, left}
use Rattle.passes.specs.declared.alloc.Outcome.TheVariants.{Kept}
use Rattle.passes.specs.Contract.{count_of, counts_of}
use Rattle.passes.specs.Machine.{Keeps}
use Rattle.passes.specs.Promise.{InFull}
use Rattle.passes.proofs.InFull.{promise_in_full}
use Rattle.walks.specs.declared.Counts.{Counts}
use Rattle.walks.specs.Lent.{Lent, report}
use Rattle.allocator.specs.InFull.{OptimizedSays, OptimizedWordsSays}
use Rattle.allocator.specs.Optimize.{LentStatics, OptimizedBy, OptimizedWordsBy, records_in, counted_records}
use Rattle.allocator.proofs.Promise.{first_count}

-- what is answered and left where the verdict passed, and where it refused
pub said : {v : Verdict} {values : List ℕ} {r : Report} → r ≡ unless v values → v ≡ Passed → r ≡ answered values
said {values = values} h q = h ∙ ap (λ u. unless u values) q

pub refused_said : {v : Verdict} (values : List ℕ) {r : Report} {number index : ℕ} → r ≡ unless v values → v ≡ Refused number index → r ≡ refused number index
refused_said values h q = h ∙ ap (λ u. unless u values) q

pub starts : {Item : Type 0} {v : Verdict} {now : List Item} (items held : List Item) → now ≡ left v items held → v ≡ Passed
    → now ≡ items ++ drop (length items) held
starts items held h q = h ∙ ap (λ u. left u items held) q

pub stays : {Item : Type 0} {v : Verdict} {now : List Item} (items held : List Item) {number index : ℕ} → now ≡ left v items held → v ≡ Refused number index
    → now ≡ held
stays items held h q = h ∙ ap (λ u. left u items held) q

-- the promise of the records that the answer counts
in_full : (v : Verdict) (s : Settings) (list table out : List ℕ) (given : Result Counts Refusal) → report given ≡ unless v (counts_of s list table)
    → Keeps v s list table (counted_records given out) → v ≡ Passed → InFull s list table (take (count_of Kept s list table * 8) out)
in_full v s list table out given answer k q =
    let counted : records_in (report given) ≡ count_of Kept s list table = ap records_in (said answer q) ∙ first_count s list table in
    subst (λ n. InFull s list table (take (n * 8) out)) counted
    (promise_in_full v s list table (counted_records given out) k q)

pub optimized_in_full : (v : Verdict) (s : Settings) (list table : List ℕ) (held now : LentStatics) (given : Result Counts Refusal)
    → OptimizedBy v s list table held now given → OptimizedSays v s list table held now given
optimized_in_full v s list table held now given p =
    record {
      accepted = λ q.
          record {
            answer = said p.leaves.answer q;
            out = starts _ held.out p.leaves.out q;
            statics = starts _ held.statics p.leaves.statics q;
            set = starts _ held.set p.leaves.set q;
            promise = in_full v s list table now.out given p.leaves.answer p.keeps q;
          };
      rejected = λ number index q.
          record {
            answer = refused_said (counts_of s list table) p.leaves.answer q;
            out = stays _ held.out p.leaves.out q;
            statics = stays _ held.statics p.leaves.statics q;
            set = stays _ held.set p.leaves.set q;
          };
    }

pub optimized_words_in_full : (v : Verdict) (s : Settings) (list table : List ℕ) (held now : Lent) (given : Result Counts Refusal)
    → OptimizedWordsBy v s list table held now given → OptimizedWordsSays v s list table held now given
optimized_words_in_full v s list table held now given p =
    record {
      accepted = λ q.
          record {
            answer = said p.leaves.answer q;
            out = starts _ held.out p.leaves.out q;
            colours = starts _ held.colours p.leaves.colours q;
            ends = starts _ held.ends p.leaves.ends q;
            set = starts _ held.set p.leaves.set q;
            promise = in_full v s list table now.out given p.leaves.answer p.keeps q;
          };
      rejected = λ number index q.
          record {
            answer = refused_said (counts_of s list table) p.leaves.answer q;
            out = stays _ held.out p.leaves.out q;
            colours = stays _ held.colours p.leaves.colours q;
            ends = stays _ held.ends p.leaves.ends q;
            set = stays _ held.set p.leaves.set q;
          };
    }
