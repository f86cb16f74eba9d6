-- Inner: what a walk needs to know of the list, and what a turn of the first walk and that walk tell.
use Rattle.std.specs.Prelude.{ℕ, ◌+◌, ◌/◌, cond, List, ◌≡◌, eqb, min, length, replicate, Result, MatchResult}
use Rattle.mir.specs.declared.config.Settings.{Settings}
use Rattle.mir.specs.declared.refusal.Question.{Question}
use Rattle.mir.specs.declared.refusal.Refusal.{Refusal}
use Rattle.mir.specs.declared.rename.Renaming.{Renaming}
use Rattle.mir.specs.Answers.{Passed, Refused, number_of, over}
use Rattle.mir.specs.Inner.{with_part}
use Rattle.mir.specs.Folds.{first_refusal}
use Rattle.mir.specs.Questions.{record_no, record_by}
use Rattle.mir.specs.Records.{word_at}
use Rattle.mir.specs.Renaming.{gens, renamed}
use Rattle.mir.specs.Shapes.{branch_if, dests, sources}
use Rattle.passes.specs.Create.{consumed, ends_to}
use Rattle.passes.specs.Machine.{Passing}

-- the list passes, with some settings and table
abbrev pub Passes : List ℕ → Type 0
Passes list = (s : Settings) × (table : List ℕ) × Passing s list table

-- a record passes: its sources end there, so far, and then its own statics, and so many were written before the last BranchIf then
pub record Ended (table : List ℕ) (count_regs past : ℕ) (rec : List ℕ) (i : ℕ) (r r' : Renaming) (ends ends' : List ℕ) (after : ℕ) : Type 0 where
  pub none : record_no table count_regs r.regs past rec ≡ 0
  pub regs_are : r'.regs ≡ renamed rec r.statics r.regs
  pub statics_are : r'.statics ≡ r.statics + gens (dests rec)
  pub past_is : after ≡ cond (eqb (word_at rec 0) branch_if) r.statics past
  pub ends_are : ends' ≡ with_part r.statics (gens (dests rec)) (replicate (gens (dests rec)) i) (consumed r.regs i (sources rec) ends)

-- or it is refused by a question
abbrev pub Turned : List ℕ → ℕ → ℕ → List ℕ → ℕ → Renaming → Renaming → List ℕ → List ℕ → Result ℕ Question → Type 0
Turned table count_regs past rec i r r' ends ends' given =
    MatchResult given (Ended table count_regs past rec i r r' ends ends') (λ q. number_of q ≡ record_no table count_regs r.regs past rec)

-- the first records pass, and these are the ends of so many statics; or the first that does not is refused
pub record Created (list table : List ℕ) (count_regs until : ℕ) (ends ends' : List ℕ) (statics : ℕ) : Type 0 where
  pub passes : Passed ≡ first_refusal (record_by table count_regs list) until
  pub statics_are : statics ≡ length (ends_to list until)
  pub ends_are : ends' ≡ over (ends_to list until) ends

abbrev pub Creates : List ℕ → List ℕ → ℕ → ℕ → List ℕ → List ℕ → Result ℕ Refusal → Type 0
Creates list table count_regs until ends ends' given =
    MatchResult given (Created list table count_regs until ends ends') (λ r. Refused (number_of r.question) r.index ≡ first_refusal (record_by table count_regs list) until)

-- how many records of a long list are asked before it takes space: one in sixteen, 768 at most
abbrev pub first_records : List ℕ → ℕ
first_records list = min (length list / 128) 768
