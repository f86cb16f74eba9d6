-- Public: what holds of renaming and of the questions, each the clause of the law of its name in src/laws.rt.
use Rattle.std.specs.Prelude.{◌≡◌, ℕ, ◌*◌, ◌≤◌, Bool, List, length}
use Rattle.mir.specs.declared.config.Settings.{Settings}
use Rattle.mir.specs.Folds.{or_else}
use Rattle.mir.specs.Questions.{refusal, start_refusal, list_refusal}
use Rattle.mir.specs.Renaming.{statics_to}

-- at most two statics a record
abbrev pub StaticsTwo : Type 0
StaticsTwo = (list : List ℕ) (i : ℕ) → statics_to list i ≤ i * 2

-- the refusal is that of the questions that come before any record, and where they pass that of those put to the records
abbrev pub RefusalParts : Type 0
RefusalParts =
    (room : Bool) (s : Settings) (list table : List ℕ)
    → refusal room s list table ≡ or_else (start_refusal room s (length list) (length table)) (list_refusal s.count_regs list table)
