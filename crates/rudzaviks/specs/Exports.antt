-- Public: the answers of the exported functions, each as one 64-bit word. Bits 32 to 55 hold the number of the question that
-- refused the list, 0 for none, so a refusal is never taken for an answer; a refusal's index stands in bits 0 to 31.
use Rattle.std.specs.Prelude.{ℕ, ◌+◌, ◌*◌, ◌/◌, ◌%◌, ◌^◌, Bool, ◌&&◌, List, [], ◌∷◌, ◌≡◌, leb, get_or, length, take}
use Rattle.walks.specs.Lent.{Lent}
use Rattle.mir.specs.Answers.{left}
use Rattle.allocator.specs.Optimize.{room_in_words}
use Rattle.mir.specs.declared.config.Settings.{Settings}
use Rattle.mir.specs.Answers.{Verdict}
use Rattle.mir.specs.Answers.{Report, answered, refused, unless}
use Rattle.survey.specs.Beside.{parts}
use Rattle.mir.specs.Questions.{refusal, refusal_beside}
use Rattle.passes.specs.declared.alloc.Outcome.TheVariants.{Kept}
use Rattle.passes.specs.Contract.{counts_of, count_of, words_of, reduced, colours_of, members_of}
use Rattle.passes.specs.Create.{ends_of}
use Rattle.passes.specs.Machine.{Keeps}
use Rattle.file.specs.File.{words_in, bytes_of, settings_in, table_in, record_count, list_in, file_verdict, file_counts, file_reduced}

-- number and index
abbrev pub refusal_word : ℕ → ℕ → ℕ
refusal_word number index = number * 2 ^ 32 + index

-- what the values of an answer come to, or the refusal
abbrev pub report_word : (List ℕ → ℕ) → Report → ℕ
report_word word (answered values) = word values
report_word word (refused number index) = refusal_word number index

-- ---- rudzaviks_survey

-- the index, or 4,294,967,295 where the label is absent
abbrev pub place_word : List ℕ → ℕ
place_word values = get_or values 2 4294967295

-- the mask's low word and its high one, how many registers it names, and the label's place
abbrev pub parts_words : List ℕ → List ℕ
parts_words values = get_or values 0 0 % 2 ^ 32 ∷ get_or values 0 0 / 2 ^ 32 ∷ get_or values 1 0 ∷ place_word values ∷ []

-- questions 1, 3 and 5 to 7, and after 3 question 4, which asks for a slice of at least four words
unfoldable pub survey_verdict : ℕ → List ℕ → List ℕ → List ℕ → Verdict
survey_verdict count_regs list table held = refusal_beside (leb 4 (length held)) count_regs list table

-- the promise, with what the lent slice held and holds
pub record RudzaviksSurvey (count_regs : ℕ) (compress : Bool) (label : ℕ) (list table held now : List ℕ) (given : ℕ) : Type 0 where
  pub word : given ≡ report_word place_word (unless (survey_verdict count_regs list table held) (parts compress label list))
  pub words : now ≡ left (survey_verdict count_regs list table held) (parts_words (parts compress label list)) held

-- ---- rudzaviks_optimize

-- the number of records of the reduced list
abbrev pub records_word : List ℕ → ℕ
records_word values = get_or values 0 0

-- the questions; question 4 also asks for a slice of at least eight counts
unfoldable pub verdict_with : Settings → List ℕ → List ℕ → Lent → List ℕ → Verdict
verdict_with s list table held counts = refusal (room_in_words list table held && leb 8 (length counts)) s list table

-- by the verdict, the word and what the lent slices then hold; and what is promised of the list and of the first records that the output
-- now holds, as many as the word says
pub record RudzaviksOptimizeBy (v : Verdict) (s : Settings) (list table : List ℕ) (held : Lent) (held_counts : List ℕ) (now : Lent)
    (now_counts : List ℕ) (given : ℕ) : Type 0 where
  pub word : given ≡ report_word records_word (unless v (counts_of s list table))
  pub out : now.out ≡ left v (reduced s list table) held.out
  pub colours : now.colours ≡ left v (colours_of s list table) held.colours
  pub ends : now.ends ≡ left v (ends_of list) held.ends
  pub set : now.set ≡ left v (words_of (members_of s list table)) held.set
  pub counts : now_counts ≡ left v (counts_of s list table) held_counts
  pub keeps : Keeps v s list table (take (given * 8) now.out)

-- the promise
abbrev pub RudzaviksOptimize : Settings → (list table : List ℕ) → (held : Lent) → (held_counts : List ℕ) → (now : Lent)
    → (now_counts : List ℕ) → (given : ℕ) → Type 0
RudzaviksOptimize s list table held held_counts now now_counts given =
    RudzaviksOptimizeBy (verdict_with s list table held held_counts) s list table held held_counts now now_counts given

-- ---- rudzaviks_reduce

-- question 4 asks for 4 bytes, and 32 for each record of the file
abbrev pub bytes_verdict : List ℕ → List ℕ → Verdict
bytes_verdict file held = file_verdict (leb (4 + record_count file * 32) (length held)) file

-- record count and records
abbrev pub file_words : List ℕ → List ℕ
file_words file = count_of Kept (settings_in file) (list_in file) (table_in file) ∷ file_reduced file

-- by the verdict, the word and what the lent bytes then hold; and what is promised of the file's list and of the records that the bytes
-- now hold
pub record RudzaviksReduceBy (v : Verdict) (file held now : List ℕ) (given : ℕ) : Type 0 where
  pub word : given ≡ report_word records_word (unless v (file_counts file))
  pub out : now ≡ left v (bytes_of (file_words file)) held
  pub keeps : Keeps v (settings_in file) (list_in file) (table_in file) (words_in now 1 (given * 8))

-- the promise
abbrev pub RudzaviksReduce : (file held now : List ℕ) → (given : ℕ) → Type 0
RudzaviksReduce file held now given = RudzaviksReduceBy (bytes_verdict file held) file held now given
