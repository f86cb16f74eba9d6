-- The promises of both forms, from what is answered and left by the verdict; and what the start of an operation knows of its verdict.
-- Demand 3 is the theorem about the definitions, put to the words that the output starts with.
use Prim.Native.Nat.{ℕ, ◌+◌, ◌*◌, ◌/◌, ◌≤◌}
use mathlib.Core.Bool.{Bool, true, ◌&&◌}
use mathlib.Core.List.{List}
use mathlib.Core.Path.{◌≡◌, refl, sym, ap, subst, ◌∙◌}
use native.Mathlib.Omega.{arith}
use lib.Dec.{leb}
use lib.ListN.{length, take}
use borrow.Author.Tests.{leb-true}
use Rattle.std.specs.Prelude.{Result}
use Rattle.std.proofs.Math.Nat.{min-le_left, min-le_right}
use Rattle.mir.specs.declared.config.Settings.{Settings}
use Rattle.mir.specs.declared.refusal.Refusal.{Refusal}
use Rattle.mir.specs.Answers.{Verdict, Passed, Refused, answered, unless, over, left}
use Rattle.mir.specs.Folds.{or_else}
use Rattle.mir.specs.Questions.{refusal, start_refusal, list_refusal}
use Rattle.mir.specs.Records.{records, fixed_mark}
use Rattle.mir.proofs.Over.{over_take}
use Rattle.mir.proofs.Passing.{room_passes, start_passes, refusal_parts, refusal_after}
use Rattle.mir.proofs.Renaming.{and_both}
use Rattle.passes.specs.declared.alloc.Outcome.TheVariants.{Kept}
use Rattle.passes.specs.Color.{setup}
use Rattle.passes.specs.Contract.{reduced, count_of, counts_of}
use Rattle.passes.specs.Machine.{Passing, Preserves, Keeps}
use Rattle.theorems.proofs.Lengths.{reduced_length}
use Rattle.theorems.proofs.NeverEmpty.{pool_never_empty}
use Rattle.theorems.proofs.Preserved.{list_preserved}
use Rattle.walks.specs.declared.Counts.{Counts}
use Rattle.walks.specs.Lent.{Lent, Leaves, report}
use Rattle.walks.specs.Walks.{Roomy}
use Rattle.allocator.specs.Optimize.{LentStatics, LeavesStatics, Optimized, OptimizedWords, room_for, room_in, room_in_words, verdict_of, verdict_of_words, records_in, counted_records}

module _ (s : Settings) (list table : List ℕ) where
  pub reduced_words : length (reduced s list table) ≡ count_of Kept s list table * 8
  unfolding reduced count_of
  reduced_words = reduced_length (fixed_mark s) (setup s list table) (records list) (omega arith)

  pub first_count : records_in (answered (counts_of s list table)) ≡ count_of Kept s list table
  unfolding counts_of
  first_count = refl

  -- the records that the counts name, off a slice that starts with the reduced list
  pub taken : (old : List ℕ) → take (records_in (answered (counts_of s list table)) * 8) (over (reduced s list table) old) ≡ reduced s list table
  taken old = ap (λ n. take n (over (reduced s list table) old)) (ap (λ n. n * 8) first_count ∙ sym reduced_words) ∙ over_take (reduced s list table) old

  -- what is promised, of the records that the answer counts
  pub keeps : (out : List ℕ) (given : Result Counts Refusal) {v : Verdict} {now : List ℕ} → (v ≡ Passed → Passing s list table)
      → report given ≡ unless v (counts_of s list table) → now ≡ left v (reduced s list table) out → Keeps v s list table (counted_records given now)
  keeps out given {v} {now} passing answer is =
      record {
        pools = λ q. pool_never_empty s list table (passing q);
        runs = λ q.
            let starts : now ≡ over (reduced s list table) out = is ∙ ap (λ u. left u (reduced s list table) out) q in
            let counted : report given ≡ answered (counts_of s list table) = answer ∙ ap (λ u. unless u (counts_of s list table)) q in
            subst (Preserves s list)
            (sym (ap (counted_records given) starts ∙ (ap (λ a. take (records_in a * 8) (over (reduced s list table) out)) counted ∙ taken out)))
            (list_preserved s list table (passing q));
      }

-- a list that passes, whatever the room was
pub passing_with : (room : Bool) (s : Settings) (list table : List ℕ) → refusal room s list table ≡ Passed → Passing s list table
unfolding Passing
passing_with room s list table v = rw (room_passes room s list table v) at v

-- ---- the start of an operation

-- questions 1 to 4 answered yes: so they are with any room, and the records decide
pub record Started (room : Bool) (s : Settings) (list table : List ℕ) : Type 0 where
  pub anyway : start_refusal true s (length list) (length table) ≡ Passed
  pub room_is : room ≡ true
  pub verdict_is : refusal room s list table ≡ list_refusal s.count_regs list table

module _ (room : Bool) (s : Settings) (list table : List ℕ) where
  pub started : start_refusal room s (length list) (length table) ≡ Passed → Started room s list table
  started h =
      let r = (start_passes room s (length list) (length table) h).roomy in
      record { anyway = rw r at h; room_is = r; verdict_is = refusal_after room s list table h }

  -- or one of them answered no
  pub stopped : {number index : ℕ} → start_refusal room s (length list) (length table) ≡ Refused number index → refusal room s list table ≡ Refused number index
  stopped h = refusal_parts room s list table ∙ ap (λ v. or_else v (list_refusal s.count_regs list table)) h

-- question 4 answered yes: the output has room, the statics and the set
room_lem : (list table out statics set : ℕ) → room_for list table out statics set ≡ true
    → (list ≤ out) × (list / 8 * 2 ≤ statics) × (list / 8 * 4 + table ≤ set)
unfolding room_for
room_lem list table out statics set h =
    let a = and_both (leb list out) (leb (list / 8 * 2) statics && leb (list / 8 * 4 + table) set) h in
    let b = and_both (leb (list / 8 * 2) statics) (leb (list / 8 * 4 + table) set) a.1 in
    (leb-true list out a.0, leb-true (list / 8 * 2) statics b.0, leb-true (list / 8 * 4 + table) set b.1)

roomy : (list table out colours ends set : ℕ) {statics : ℕ} → statics ≤ colours → statics ≤ ends → room_for list table out statics set ≡ true
    → Roomy list table out colours ends set
roomy list table out colours ends set {statics} c e h =
    let r = room_lem list table out statics set h in
    record { for_out = r.0; for_colours = omega (arith, r.1, c); for_ends = omega (arith, r.1, e); for_set = r.2 }

-- ---- `optimize`

module _ (s : Settings) (list table : List ℕ) (held : LentStatics) where
  pub enough : room_in list table held ≡ true
      → Roomy (length list) (length table) (length held.out) (length held.statics) (length held.statics) (length held.set)
  unfolding room_in
  enough h =
      roomy (length list) (length table) (length held.out) (length held.statics) (length held.statics) (length held.set) {statics = length held.statics}
      (omega arith) (omega arith) h

  pub decided : {room : Bool} {v : Verdict} → room ≡ room_in list table held → refusal room s list table ≡ v → verdict_of s list table held ≡ v
  unfolding verdict_of
  decided r e = sym (ap (λ b. refusal b s list table) r) ∙ e

  pub promised : {now : LentStatics} {given : Result Counts Refusal} → LeavesStatics (verdict_of s list table held) s list table held now given
      → Optimized s list table held now given
  unfolding verdict_of
  promised {given = given} w =
      record { leaves = w; keeps = keeps s list table held.out given (passing_with (room_in list table held) s list table) w.answer w.out }

-- ---- `optimize_words`

module _ (s : Settings) (list table : List ℕ) (held : Lent) where
  pub enough_words : room_in_words list table held ≡ true
      → Roomy (length list) (length table) (length held.out) (length held.colours) (length held.ends) (length held.set)
  unfolding room_in_words
  enough_words h =
      roomy (length list) (length table) (length held.out) (length held.colours) (length held.ends) (length held.set)
      (min-le_left (length held.colours) (length held.ends)) (min-le_right (length held.colours) (length held.ends)) h

  pub decided_words : {room : Bool} {v : Verdict} → room ≡ room_in_words list table held → refusal room s list table ≡ v → verdict_of_words s list table held ≡ v
  unfolding verdict_of_words
  decided_words r e = sym (ap (λ b. refusal b s list table) r) ∙ e

  pub promised_words : {now : Lent} {given : Result Counts Refusal} → Leaves (verdict_of_words s list table held) s list table held now given
      → OptimizedWords s list table held now given
  unfolding verdict_of_words
  promised_words {given = given} w =
      record { leaves = w; keeps = keeps s list table held.out given (passing_with (room_in_words list table held) s list table) w.answer w.out }
