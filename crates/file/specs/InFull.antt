-- Public: what `reduce_file` promises, in full: of a file that passes, and of one that is refused. A law says that all of this follows from
-- the promise, whatever the verdict goes by: so from nothing else.
use Rattle.std.specs.Prelude.{◌≡◌, ℕ, ◌*◌, List, ◌++◌, Result, length, take, drop}
use Rattle.mir.specs.declared.refusal.Refusal.{Refusal}
use Rattle.mir.specs.Answers.{Verdict, Passed, Refused, answered, refused}
use Rattle.passes.specs.declared.alloc.Outcome.TheVariants.{Kept}
use Rattle.passes.specs.Contract.{count_of}
use Rattle.passes.specs.Promise.{InFull}
use Rattle.walks.specs.declared.Counts.{Counts}
use Rattle.walks.specs.Lent.{report}
use Rattle.file.specs.File.{settings_in, table_in, list_in, file_counts, file_reduced, FileReducedBy}

-- how many records are kept of a file's list
abbrev pub kept_in : List ℕ → ℕ
kept_in file = count_of Kept (settings_in file) (list_in file) (table_in file)

pub record AcceptedFile (file held now : List ℕ) (given : Result Counts Refusal) : Type 0 where
  pub answer : report given ≡ answered (file_counts file)
  pub out : now ≡ file_reduced file ++ drop (length (file_reduced file)) held
  pub promise : InFull (settings_in file) (list_in file) (table_in file) (take (kept_in file * 8) now)

pub record RejectedFile (number index : ℕ) (held now : List ℕ) (given : Result Counts Refusal) : Type 0 where
  pub answer : report given ≡ refused number index
  pub out : now ≡ held

pub record FileReducedSays (v : Verdict) (file held now : List ℕ) (given : Result Counts Refusal) : Type 0 where
  pub accepted : v ≡ Passed → AcceptedFile file held now given
  pub rejected : (number index : ℕ) → v ≡ Refused number index → RejectedFile number index held now given

abbrev pub FileReducedInFull : Type 0
FileReducedInFull =
    (v : Verdict) (file held now : List ℕ) (given : Result Counts Refusal)
    → FileReducedBy v file held now given → FileReducedSays v file held now given
