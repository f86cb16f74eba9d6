-- The statics as entries, from the colours and the ends that the walks leave in working space.
-- There are as many ends as colours, and the count names both.
use Prim.Native.Nat.{ℕ, suc, ◌*◌, ◌/◌, ◌≤◌}
use mathlib.Core.List.{List, [], ◌∷◌, ◌++◌}
use mathlib.Core.Path.{◌≡◌, refl, sym, ap}
use native.Mathlib.Omega.{arith}
use lib.ListN.{length, get_or, take, drop}
use Rattle.std.specs.Prelude.{Ok, Err}
use Rattle.mir.specs.declared.config.Settings.{Settings}
use Rattle.mir.specs.declared.refusal.Refusal.{Refusal}
use Rattle.mir.specs.Answers.{Verdict, Passed}
use Rattle.mir.specs.Records.{records}
use Rattle.mir.proofs.Over.{over_take}
use Rattle.mir.proofs.Renaming.{statics_two}
use Rattle.passes.specs.Contract.{reduced, colours_of, members_of, words_of, counts_of}
use Rattle.passes.specs.Create.{ends_of}
use Rattle.passes.specs.Machine.{Passing}
use Rattle.theorems.proofs.Create.{ends_count}
use Rattle.theorems.proofs.NeverEmpty.{ends_same}
use Rattle.walks.specs.declared.Counts.{Counts}
use Rattle.walks.specs.Lent.{Lent, Leaves}
use Rattle.walks.specs.Walks.{Reduces}
use Rattle.walks.proofs.Leaves.{answer_passed, left_passed, left_refused, refused_of}
use Rattle.allocator.specs.declared.statics.Static.{Static}
use Rattle.allocator.specs.Statics.{entries, statics_of}
use Rattle.allocator.specs.Optimize.{LeavesStatics, lent_statics}

entries_length : (cs es : List ℕ) → length es ≡ length cs → length (entries cs es) ≡ length cs
unfolding entries
entries_length [] es h = refl
entries_length (c ∷ cs) [] h = absurd (omega arith)
entries_length (c ∷ cs) (e ∷ es) h = ap suc (entries_length cs es (omega arith))

-- a refusal has changed no word, and so no entry
pub kept : (s : Settings) (list table : List ℕ) (statics : List Static) (r : Refusal) {v : Verdict} {held now : Lent} → Leaves v s list table held now (Err r)
    → LeavesStatics v s list table (lent_statics held.out statics held.set) (lent_statics now.out statics now.set) (Err r)
kept s list table statics r w =
    record {
      answer = w.answer;
      out = w.out;
      statics = left_refused (statics_of s list table) statics (refused_of r (counts_of s list table) w.answer);
      set = w.set;
    }

module _ (s : Settings) (list table : List ℕ) (h : Passing s list table) where
  statics_length : length (statics_of s list table) ≡ length (colours_of s list table)
  unfolding statics_of
  statics_length = entries_length (colours_of s list table) (ends_of list) (ends_same s list table h)

  module _ {held now : Lent} {r : Counts} (w : Reduces s list table held now r) where
    count_is : r.statics ≡ length (colours_of s list table)
    unfolding counts_of
    count_is = ap (λ values. get_or values 1 0) w.counts

    -- two for each record
    pub few_statics : r.statics ≤ length list / 8 * 2
    few_statics = omega (arith, count_is, ends_same s list table h, ends_count list, statics_two list (records list))

    -- the words that the count names
    colours_taken : take r.statics now.colours ≡ colours_of s list table
    colours_taken = rw (count_is, w.colours) (over_take (colours_of s list table) held.colours)

    ends_taken : take r.statics now.ends ≡ ends_of list
    ends_taken = rw (count_is, sym (ends_same s list table h), w.ends) (over_take (ends_of list) held.ends)

    pub written : {v : Verdict} {statics entered : List Static} → v ≡ Passed
        → entered ≡ entries (take r.statics now.colours) (take r.statics now.ends) ++ drop r.statics statics
        → LeavesStatics v s list table (lent_statics held.out statics held.set) (lent_statics now.out entered now.set) (Ok r)
    unfolding statics_of
    written {statics = statics} p e =
        record {
          answer = answer_passed (counts_of s list table) p w.counts;
          out = left_passed (reduced s list table) held.out p w.out;
          statics = left_passed (statics_of s list table) statics p (rw (colours_taken, ends_taken, count_is, sym statics_length) at e);
          set = left_passed (words_of (members_of s list table)) held.set p w.set;
        }
