-- The verdict on a file: that of the questions if it is well formed, and otherwise 3 at 0; and what follows if it passed.
-- By these two cases; what is promised of runs and choices is by the theorems, put to the file's list.
use Prim.Native.Nat.{ℕ, ◌*◌, ◌≤◌}
use mathlib.Core.Bool.{Bool, true, false, cond}
use mathlib.Core.List.{List}
use mathlib.Core.Path.{◌≡◌, refl}
use native.Mathlib.Omega.{arith}
use lib.ListN.{length}
use Rattle.walks.specs.declared.Counts.{Counts}
use Rattle.walks.specs.Lent.{values_in}
use Rattle.allocator.proofs.Promise.{reduced_words, passing_with}
use Rattle.mir.specs.Answers.{Verdict}
use Rattle.mir.specs.Answers.{Passed, Refused}
use Rattle.mir.specs.Answers.{answered, unless}
use Rattle.mir.specs.Questions.{refusal}
use Rattle.mir.specs.Records.{records, fixed_mark}
use Rattle.mir.proofs.Clash.{clash}
use Rattle.mir.proofs.Passing.{room_passes}
use Rattle.passes.specs.declared.alloc.Outcome.TheVariants.{Kept}
use Rattle.passes.specs.Color.{setup}
use Rattle.passes.specs.Contract.{counts_of, count_of}
use Rattle.passes.specs.Machine.{Passing, Keeps}
use Rattle.theorems.proofs.Lengths.{counts_add}
use Rattle.theorems.proofs.NeverEmpty.{pool_never_empty}
use Rattle.theorems.proofs.Preserved.{list_preserved}
use Rattle.std.specs.Prelude.{Some, None}
use Rattle.file.specs.File.{settings_in, pair_count, record_count, table_in, list_in, well_formed, counted, layout_of, file_verdict, file_counts, file_reduced}
use Rattle.file.proofs.Sections.{Sections, list_length}

-- a file that is well formed
pub good_verdict : {file : List ℕ} {pairs count : ℕ} → Sections file pairs count → (room : Bool)
    → refusal room (settings_in file) (list_in file) (table_in file) ≡ file_verdict room file
unfolding file_verdict
good_verdict h room = rw h.well

-- a file that is not well formed
pub bad_verdict : (room : Bool) (file : List ℕ) → layout_of file ≡ None → file_verdict room file ≡ Refused 3 0
unfolding file_verdict layout_of
bad_verdict room file e = go (well_formed file) e
  where
    go : (b : Bool) → cond b (Some (counted (pair_count file) (record_count file))) None ≡ None
        → cond b (refusal room (settings_in file) (list_in file) (table_in file)) (Refused 3 0) ≡ Refused 3 0
    go false q = refl
    go true q = clash (cc)

-- a file that passed
pub record Accepted (room : Bool) (file : List ℕ) : Type 0 where
  pub room_is : room ≡ true
  pub well : well_formed file ≡ true
  pub passing : Passing (settings_in file) (list_in file) (table_in file)

pub accepted : {room : Bool} {file : List ℕ} → file_verdict room file ≡ Passed → Accepted room file
unfolding file_verdict
accepted {room} {file} v = go (well_formed file) refl v
  where
    go : (b : Bool) → well_formed file ≡ b → cond b (refusal room (settings_in file) (list_in file) (table_in file)) (Refused 3 0) ≡ Passed → Accepted room file
    go false w q = clash (cc)
    go true w q =
        record { room_is = room_passes room _ _ _ q; well = w; passing = passing_with room _ _ _ q }

-- the number of records that are kept
abbrev pub kept : List ℕ → ℕ
kept file = count_of Kept (settings_in file) (list_in file) (table_in file)

pub kept_size : (file : List ℕ) → length (file_reduced file) ≡ kept file * 8
kept_size file = reduced_words _ _ _

pub kept_few : {file : List ℕ} {pairs count : ℕ} → Sections file pairs count → kept file ≤ count
unfolding count_of
kept_few {file} h =
    let total = counts_add (fixed_mark (settings_in file)) (setup (settings_in file) (list_in file) (table_in file)) (records (list_in file)) in
    omega (arith, list_length h)

-- an answer comes of a verdict that passed
pub answered_passed : (room : Bool) (file : List ℕ) (c : Counts) → answered (values_in c) ≡ unless (file_verdict room file) (file_counts file)
    → (file_verdict room file ≡ Passed) × (c.tally.records ≡ kept file)
unfolding counts_of
answered_passed room file c a = go (file_verdict room file) a
  where
    go : (v : Verdict) → answered (values_in c) ≡ unless v (file_counts file) → (v ≡ Passed) × (c.tally.records ≡ kept file)
    go Passed e = (refl, cc)
    go (Refused number index) e = clash (cc)

-- what is promised, of words that are the reduced list
pub accepted_keeps : {room : Bool} {v : Verdict} {file words : List ℕ} → (v ≡ Passed → Accepted room file) → (v ≡ Passed → words ≡ file_reduced file)
    → Keeps v (settings_in file) (list_in file) (table_in file) words
accepted_keeps {file = file} a e =
    record {
      pools = λ q. pool_never_empty (settings_in file) (list_in file) (table_in file) (a q).passing;
      runs = λ q. rw (e q) (list_preserved (settings_in file) (list_in file) (table_in file) (a q).passing);
    }
