-- Public, document 01, section 8: the file, made of little-endian words of 32 bits, and what reducing it gives.
use Rattle.std.specs.Prelude.{ℕ, zero, suc, ◌+◌, ◌*◌, ◌/◌, ◌%◌, ◌^◌, Bool, cond, not, ◌&&◌, List, [], ◌∷◌, ◌++◌, Option, Some, None, Result, ◌≡◌, eqb, leb, length, get_or}
use Rattle.walks.specs.declared.Counts.{Counts}
use Rattle.mir.specs.declared.refusal.Refusal.{Refusal}
use Rattle.mir.specs.Answers.{left}
use Rattle.walks.specs.Lent.{report}
use Rattle.allocator.specs.Optimize.{counted_records}
use Rattle.mir.specs.declared.config.Settings.{Settings}
use Rattle.mir.specs.Answers.{Verdict}
use Rattle.mir.specs.Answers.{Refused}
use Rattle.mir.specs.Answers.{unless}
use Rattle.mir.specs.Questions.{refusal}
use Rattle.passes.specs.Contract.{counts_of, reduced}
use Rattle.passes.specs.Machine.{Keeps}
use Rattle.file.specs.declared.layout.Layout.{Layout}

-- word k of bytes, lowest byte first, and n words from word k on
unfoldable pub word_in : List ℕ → ℕ → ℕ
word_in bytes k =
    get_or bytes (k * 4) 0
    + get_or bytes (k * 4 + 1) 0 * 2 ^ 8
    + get_or bytes (k * 4 + 2) 0 * 2 ^ 16
    + get_or bytes (k * 4 + 3) 0 * 2 ^ 24

unfoldable pub words_in : List ℕ → ℕ → ℕ → List ℕ
words_in bytes k zero = []
words_in bytes k (suc n) = word_in bytes k ∷ words_in bytes (suc k) n

-- words as bytes
abbrev pub bytes_of_word : ℕ → List ℕ
bytes_of_word w = w % 2 ^ 8 ∷ w / 2 ^ 8 % 2 ^ 8 ∷ w / 2 ^ 16 % 2 ^ 8 ∷ w / 2 ^ 24 % 2 ^ 8 ∷ []

unfoldable pub bytes_of : List ℕ → List ℕ
bytes_of [] = []
bytes_of (w ∷ ws) = bytes_of_word w ++ bytes_of ws

-- a flag is set if its word isn't 0
abbrev pub flag : ℕ → Bool
flag w = not (eqb w 0)

-- the settings as numbers
abbrev pub settings_of : (count_regs args complex arm compress : ℕ) → Settings
settings_of count_regs args complex arm compress =
    record { count_regs = count_regs; args = args; complex = flag complex; arm = flag arm; compress = flag compress }

-- the sections in order: five settings; pair count and pairs; record count and records
unfoldable pub settings_in : List ℕ → Settings
settings_in file = settings_of (word_in file 0) (word_in file 1) (word_in file 2) (word_in file 3) (word_in file 4)

abbrev pub pair_count : List ℕ → ℕ
pair_count file = word_in file 5

unfoldable pub table_in : List ℕ → List ℕ
table_in file = words_in file 6 (pair_count file * 2)

abbrev pub record_count : List ℕ → ℕ
record_count file = word_in file (6 + pair_count file * 2)

unfoldable pub list_in : List ℕ → List ℕ
list_in file = words_in file (7 + pair_count file * 2) (record_count file * 8)

-- neither count is over 512, and the file is neither too short nor too long
unfoldable pub well_formed : List ℕ → Bool
well_formed file =
    leb (pair_count file) 512
    && (leb (record_count file) 512 && eqb (length file) ((7 + pair_count file * 2 + record_count file * 8) * 4))

abbrev pub counted : (pairs records : ℕ) → Layout
counted pairs records = record { pairs = pairs; records = records }

unfoldable pub layout_of : List ℕ → Option Layout
layout_of file = cond (well_formed file) (Some (counted (pair_count file) (record_count file))) None

-- 3 at 0 for a file that is not well formed, ahead of question 1; then the questions
unfoldable pub file_verdict : Bool → List ℕ → Verdict
file_verdict room file =
    cond (well_formed file) (refusal room (settings_in file) (list_in file) (table_in file)) (Refused 3 0)

abbrev pub file_counts : List ℕ → List ℕ
file_counts file = counts_of (settings_in file) (list_in file) (table_in file)

abbrev pub file_reduced : List ℕ → List ℕ
file_reduced file = reduced (settings_in file) (list_in file) (table_in file)

-- the file reduced into words: question 4 asks for the list's length
abbrev pub words_verdict : List ℕ → List ℕ → Verdict
words_verdict file held = file_verdict (leb (record_count file * 8) (length held)) file

-- by the verdict, what is answered and left; and what is promised of the file's list and of the records that the words now start with
pub record FileReducedBy (v : Verdict) (file held now : List ℕ) (given : Result Counts Refusal) : Type 0 where
  pub answer : report given ≡ unless v (file_counts file)
  pub out : now ≡ left v (file_reduced file) held
  pub keeps : Keeps v (settings_in file) (list_in file) (table_in file) (counted_records given now)

-- the promise of `reduce_file`
abbrev pub FileReduced : (file held now : List ℕ) → Result Counts Refusal → Type 0
FileReduced file held now given = FileReducedBy (words_verdict file held) file held now given
