-- Public, document 01, sections 4, 5, 7 and 10: what `optimize` answers, and what the lent slices then hold.
use Rattle.std.specs.Prelude.{ℕ, ◌+◌, ◌*◌, ◌/◌, Bool, ◌&&◌, List, Result, ◌≡◌, leb, min, length, get_or, take}
use Rattle.mir.specs.declared.config.Settings.{Settings}
use Rattle.mir.specs.Answers.{Verdict}
use Rattle.mir.specs.Answers.{Report, answered, refused, unless, left}
use Rattle.mir.specs.Questions.{refusal}
use Rattle.passes.specs.Contract.{reduced, members_of, words_of, counts_of}
use Rattle.passes.specs.Machine.{Keeps}
use Rattle.walks.specs.declared.Counts.{Counts}
use Rattle.mir.specs.declared.refusal.Refusal.{Refusal}
use Rattle.walks.specs.Lent.{Lent, Leaves, report}
use Rattle.allocator.specs.declared.statics.Static.{Static}
use Rattle.allocator.specs.Statics.{statics_of}

-- the slices that `optimize` is lent: the output, an entry for each static, and the read set
pub record LentStatics : Type 0 where
  pub out : List ℕ
  pub statics : List Static
  pub set : List ℕ

abbrev pub lent_statics : List ℕ → List Static → List ℕ → LentStatics
lent_statics out statics set = record { out = out; statics = statics; set = set }

-- section 7, question 4, by the numbers of words and of entries: has the output at least the list's length, the statics at
-- least two entries per record, the set at least 4 words per record plus the table's length?
unfoldable pub room_for : (list table out statics set : ℕ) → Bool
room_for list table out statics set = leb list out && (leb (list / 8 * 2) statics && leb (list / 8 * 4 + table) set)

-- and of the slices themselves; of two slices of words, the shorter one says how many statics have room
unfoldable pub room_in : List ℕ → List ℕ → LentStatics → Bool
room_in list table held = room_for (length list) (length table) (length held.out) (length held.statics) (length held.set)

unfoldable pub room_in_words : List ℕ → List ℕ → Lent → Bool
room_in_words list table held =
    room_for (length list) (length table) (length held.out) (min (length held.colours) (length held.ends)) (length held.set)

-- the questions, with these slices
unfoldable pub verdict_of : Settings → List ℕ → List ℕ → LentStatics → Verdict
verdict_of s list table held = refusal (room_in list table held) s list table

unfoldable pub verdict_of_words : Settings → List ℕ → List ℕ → Lent → Verdict
verdict_of_words s list table held = refusal (room_in_words list table held) s list table

-- how many records the reduced list has
abbrev pub records_in : Report → ℕ
records_in (answered values) = get_or values 0 0
records_in (refused number index) = 0

-- the first records that an output holds, as many as the answer counts
abbrev pub counted_records : Result Counts Refusal → List ℕ → List ℕ
counted_records given out = take (records_in (report given) * 8) out

-- by the verdict, what is answered, and what the slices then hold of what they held
pub record LeavesStatics (v : Verdict) (s : Settings) (list table : List ℕ) (held now : LentStatics) (given : Result Counts Refusal) : Type 0 where
  pub answer : report given ≡ unless v (counts_of s list table)
  pub out : now.out ≡ left v (reduced s list table) held.out
  pub statics : now.statics ≡ left v (statics_of s list table) held.statics
  pub set : now.set ≡ left v (words_of (members_of s list table)) held.set

-- by the verdict: the same, and what is promised of the list and of the records that the output now starts with
pub record OptimizedBy (v : Verdict) (s : Settings) (list table : List ℕ) (held now : LentStatics) (given : Result Counts Refusal) : Type 0 where
  pub leaves : LeavesStatics v s list table held now given
  pub keeps : Keeps v s list table (counted_records given now.out)

pub record OptimizedWordsBy (v : Verdict) (s : Settings) (list table : List ℕ) (held now : Lent) (given : Result Counts Refusal) : Type 0 where
  pub leaves : Leaves v s list table held now given
  pub keeps : Keeps v s list table (counted_records given now.out)

-- the promise of `optimize`, and that of `optimize_words`, with what the lent slices held and hold
abbrev pub Optimized : Settings → (list table : List ℕ) → (held now : LentStatics) → Result Counts Refusal → Type 0
Optimized s list table held now given = OptimizedBy (verdict_of s list table held) s list table held now given

abbrev pub OptimizedWords : Settings → (list table : List ℕ) → (held now : Lent) → Result Counts Refusal → Type 0
OptimizedWords s list table held now given = OptimizedWordsBy (verdict_of_words s list table held) s list table held now given
