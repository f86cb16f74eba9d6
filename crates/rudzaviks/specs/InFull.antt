-- Public: what `rudzaviks_optimize` and `rudzaviks_reduce` promise, in full: of a list or file that passes, and of one that is refused.
-- Laws say that all of this follows from the promises, whatever the verdict goes by: so from nothing else.
use Rattle.std.specs.Prelude.{◌≡◌, ℕ, ◌+◌, ◌*◌, ◌^◌, List, ◌++◌, length, take, drop}
use Rattle.mir.specs.declared.config.Settings.{Settings}
use Rattle.mir.specs.Answers.{Verdict, Passed, Refused}
use Rattle.passes.specs.declared.alloc.Outcome.TheVariants.{Kept}
use Rattle.passes.specs.Contract.{reduced, colours_of, members_of, words_of, count_of, counts_of}
use Rattle.passes.specs.Create.{ends_of}
use Rattle.passes.specs.Promise.{InFull}
use Rattle.walks.specs.Lent.{Lent}
use Rattle.file.specs.File.{words_in, bytes_of, settings_in, table_in, list_in}
use Rattle.file.specs.InFull.{kept_in}
use Rattle.rudzaviks.specs.Exports.{RudzaviksOptimizeBy, RudzaviksReduceBy, file_words}

-- ---- rudzaviks_optimize

pub record AcceptedList (s : Settings) (list table : List ℕ) (held : Lent) (held_counts : List ℕ) (now : Lent) (now_counts : List ℕ) (given : ℕ) : Type 0 where
  pub word : given ≡ count_of Kept s list table
  pub out : now.out ≡ reduced s list table ++ drop (length (reduced s list table)) held.out
  pub colours : now.colours ≡ colours_of s list table ++ drop (length (colours_of s list table)) held.colours
  pub ends : now.ends ≡ ends_of list ++ drop (length (ends_of list)) held.ends
  pub set : now.set ≡ words_of (members_of s list table) ++ drop (length (words_of (members_of s list table))) held.set
  pub counts : now_counts ≡ counts_of s list table ++ drop (length (counts_of s list table)) held_counts
  pub promise : InFull s list table (take (given * 8) now.out)

pub record RejectedList (number index : ℕ) (held : Lent) (held_counts : List ℕ) (now : Lent) (now_counts : List ℕ) (given : ℕ) : Type 0 where
  pub word : given ≡ number * 2 ^ 32 + index
  pub out : now.out ≡ held.out
  pub colours : now.colours ≡ held.colours
  pub ends : now.ends ≡ held.ends
  pub set : now.set ≡ held.set
  pub counts : now_counts ≡ held_counts

pub record OptimizeSays (v : Verdict) (s : Settings) (list table : List ℕ) (held : Lent) (held_counts : List ℕ) (now : Lent) (now_counts : List ℕ) (given : ℕ) : Type 0 where
  pub accepted : v ≡ Passed → AcceptedList s list table held held_counts now now_counts given
  pub rejected :
      (number index : ℕ) → v ≡ Refused number index
      → RejectedList number index held held_counts now now_counts given

abbrev pub OptimizeInFull : Type 0
OptimizeInFull =
    (v : Verdict) (s : Settings) (list table : List ℕ) (held : Lent) (held_counts : List ℕ) (now : Lent) (now_counts : List ℕ) (given : ℕ)
    → RudzaviksOptimizeBy v s list table held held_counts now now_counts given → OptimizeSays v s list table held held_counts now now_counts given

-- ---- rudzaviks_reduce

pub record AcceptedBytes (file held now : List ℕ) (given : ℕ) : Type 0 where
  pub word : given ≡ kept_in file
  pub out : now ≡ bytes_of (file_words file) ++ drop (length (bytes_of (file_words file))) held
  pub promise : InFull (settings_in file) (list_in file) (table_in file) (words_in now 1 (given * 8))

pub record RejectedBytes (number index : ℕ) (held now : List ℕ) (given : ℕ) : Type 0 where
  pub word : given ≡ number * 2 ^ 32 + index
  pub out : now ≡ held

pub record ReduceSays (v : Verdict) (file held now : List ℕ) (given : ℕ) : Type 0 where
  pub accepted : v ≡ Passed → AcceptedBytes file held now given
  pub rejected : (number index : ℕ) → v ≡ Refused number index → RejectedBytes number index held now given

abbrev pub ReduceInFull : Type 0
ReduceInFull = (v : Verdict) (file held now : List ℕ) (given : ℕ) → RudzaviksReduceBy v file held now given → ReduceSays v file held now given
