-- Public: what `optimize` and `optimize_words` promise, in full: of a list that passes, and of one that is refused. Laws say that all of
-- this follows from the promises, whatever the verdict goes by: so from nothing else.
use Rattle.std.specs.Prelude.{◌≡◌, ℕ, ◌*◌, List, ◌++◌, Result, length, take, drop}
use Rattle.mir.specs.declared.config.Settings.{Settings}
use Rattle.mir.specs.declared.refusal.Refusal.{Refusal}
use Rattle.mir.specs.Answers.{Verdict, Passed, Refused, answered, refused}
use Rattle.passes.specs.declared.alloc.Outcome.TheVariants.{Kept}
use Rattle.passes.specs.Contract.{reduced, colours_of, members_of, words_of, count_of, counts_of}
use Rattle.passes.specs.Create.{ends_of}
use Rattle.passes.specs.Promise.{InFull}
use Rattle.walks.specs.declared.Counts.{Counts}
use Rattle.walks.specs.Lent.{Lent, report}
use Rattle.allocator.specs.Optimize.{LentStatics, OptimizedBy, OptimizedWordsBy}
use Rattle.allocator.specs.Statics.{statics_of}

-- ---- optimize

-- of a list that passes: the counts, and each slice starts with what it is lent for, all else being what it held; the choices, and the
-- runs of the list and of the records that the output starts with
pub record Accepted (s : Settings) (list table : List ℕ) (held now : LentStatics) (given : Result Counts Refusal) : Type 0 where
  pub answer : report given ≡ answered (counts_of s list table)
  pub out : now.out ≡ reduced s list table ++ drop (length (reduced s list table)) held.out
  pub statics : now.statics ≡ statics_of s list table ++ drop (length (statics_of s list table)) held.statics
  pub set : now.set ≡ words_of (members_of s list table) ++ drop (length (words_of (members_of s list table))) held.set
  pub promise : InFull s list table (take (count_of Kept s list table * 8) now.out)

-- of one that is refused: number and index, and each slice as it was
pub record Rejected (number index : ℕ) (held now : LentStatics) (given : Result Counts Refusal) : Type 0 where
  pub answer : report given ≡ refused number index
  pub out : now.out ≡ held.out
  pub statics : now.statics ≡ held.statics
  pub set : now.set ≡ held.set

pub record OptimizedSays (v : Verdict) (s : Settings) (list table : List ℕ) (held now : LentStatics) (given : Result Counts Refusal) : Type 0 where
  pub accepted : v ≡ Passed → Accepted s list table held now given
  pub rejected : (number index : ℕ) → v ≡ Refused number index → Rejected number index held now given

abbrev pub OptimizedInFull : Type 0
OptimizedInFull =
    (v : Verdict) (s : Settings) (list table : List ℕ) (held now : LentStatics) (given : Result Counts Refusal)
    → OptimizedBy v s list table held now given → OptimizedSays v s list table held now given

-- ---- optimize_words

-- the same with the statics in two slices of words
pub record AcceptedWords (s : Settings) (list table : List ℕ) (held now : Lent) (given : Result Counts Refusal) : Type 0 where
  pub answer : report given ≡ answered (counts_of s list table)
  pub out : now.out ≡ reduced s list table ++ drop (length (reduced s list table)) held.out
  pub colours : now.colours ≡ colours_of s list table ++ drop (length (colours_of s list table)) held.colours
  pub ends : now.ends ≡ ends_of list ++ drop (length (ends_of list)) held.ends
  pub set : now.set ≡ words_of (members_of s list table) ++ drop (length (words_of (members_of s list table))) held.set
  pub promise : InFull s list table (take (count_of Kept s list table * 8) now.out)

pub record RejectedWords (number index : ℕ) (held now : Lent) (given : Result Counts Refusal) : Type 0 where
  pub answer : report given ≡ refused number index
  pub out : now.out ≡ held.out
  pub colours : now.colours ≡ held.colours
  pub ends : now.ends ≡ held.ends
  pub set : now.set ≡ held.set

pub record OptimizedWordsSays (v : Verdict) (s : Settings) (list table : List ℕ) (held now : Lent) (given : Result Counts Refusal) : Type 0 where
  pub accepted : v ≡ Passed → AcceptedWords s list table held now given
  pub rejected : (number index : ℕ) → v ≡ Refused number index → RejectedWords number index held now given

abbrev pub OptimizedWordsInFull : Type 0
OptimizedWordsInFull =
    (v : Verdict) (s : Settings) (list table : List ℕ) (held now : Lent) (given : Result Counts Refusal)
    → OptimizedWordsBy v s list table held now given → OptimizedWordsSays v s list table held now given
