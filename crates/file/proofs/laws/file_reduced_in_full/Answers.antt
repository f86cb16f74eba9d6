-- By the verdict: it passed, or it refused.
use Rattle.std.specs.Prelude.{◌≡◌, ℕ, ◌*◌, take}
use Rattle.std.proofs.Common.{ap, subst, ◌∙◌}
use Rattle.passes.specs.Promise.{InFull}
use Rattle.passes.proofs.InFull.{promise_in_full}
use Rattle.walks.specs.Lent.{report}
use Rattle.allocator.specs.Optimize.{records_in, counted_records}
use Rattle.allocator.proofs.InFull.{said, refused_said, starts, stays}
use Rattle.allocator.proofs.Promise.{first_count}
use Rattle.file.specs.File.{settings_in, table_in, list_in, file_counts, file_reduced}
use Rattle.file.specs.InFull.{kept_in}
use Rattle.file.proofs.laws.file_reduced_in_full.Goals as goal

pub returns : goal.returns
returns c v file held now given p =
    record {
      accepted = λ q.
          let counted : records_in (report given) ≡ kept_in file = ap records_in (said p.answer q) ∙ first_count (settings_in file) (list_in file) (table_in file) in
          record {
            answer = said p.answer q;
            out = starts (file_reduced file) held p.out q;
            promise =
                subst (λ (n : ℕ). InFull (settings_in file) (list_in file) (table_in file) (take (n * 8) now)) counted
                (promise_in_full v (settings_in file) (list_in file) (table_in file) (counted_records given now) p.keeps q);
          };
      rejected = λ number index q. record { answer = refused_said (file_counts file) p.answer q; out = stays (file_reduced file) held p.out q };
    }
