-- Public, document 01, section 6, and document 02, request 10: labels, the branches to them, and what was written before a
-- BranchIf.
use Rattle.std.specs.Prelude.{ℕ, zero, suc, Bool, cond, ◌&&◌, ◌||◌, List, eqb}
use Rattle.mir.specs.Records.{record_at, word_at}
use Rattle.mir.specs.Renaming.{statics_to}
use Rattle.mir.specs.Shapes.{label, branch, branch_if}

-- a record is a Label with the given number
unfoldable pub is_label : ℕ → List ℕ → Bool
is_label name rec = eqb (word_at rec 0) label && eqb (word_at rec 1) name

abbrev pub label_at : List ℕ → ℕ → ℕ → Bool
label_at list name i = is_label name (record_at list i)

-- a record is a Branch or a BranchIf, and the number of the Label that it goes to
unfoldable pub is_branch : List ℕ → Bool
is_branch rec = eqb (word_at rec 0) branch || eqb (word_at rec 0) branch_if

unfoldable pub label_of : List ℕ → ℕ
label_of rec = cond (eqb (word_at rec 0) branch) (word_at rec 1) (word_at rec 2)

-- how many statics were written before the last BranchIf that stands before record i: statics are numbered in writing
-- order, so these are the numbers below it
unfoldable pub past_to : List ℕ → ℕ → ℕ
past_to list zero = 0
past_to list (suc i) = cond (eqb (word_at (record_at list i) 0) branch_if) (statics_to list i) (past_to list i)
