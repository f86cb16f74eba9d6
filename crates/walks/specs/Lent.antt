-- Public, document 01, sections 4 and 7: the slices that are lent to be written, and what they hold and the counts are then.
use Rattle.std.specs.Prelude.{ℕ, List, [], ◌∷◌, ◌≡◌, Result, Ok, Err}
use Rattle.mir.specs.declared.config.Settings.{Settings}
use Rattle.mir.specs.declared.refusal.Refusal.{Refusal}
use Rattle.mir.specs.Answers.{Verdict, Report, answered, refused, number_of, unless, left}
use Rattle.passes.specs.Contract.{reduced, colours_of, members_of, words_of, counts_of}
use Rattle.passes.specs.Create.{ends_of}
use Rattle.walks.specs.declared.Counts.{Counts}

-- the output, the statics' colours and ends, and the read set
pub record Lent : Type 0 where
  pub out : List ℕ
  pub colours : List ℕ
  pub ends : List ℕ
  pub set : List ℕ

abbrev pub lent : List ℕ → List ℕ → List ℕ → List ℕ → Lent
lent out colours ends set = record { out = out; colours = colours; ends = ends; set = set }

-- the counts, in section 4's order, and request 7's after them
abbrev pub values_in : Counts → List ℕ
values_in c = c.tally.records ∷ c.statics ∷ c.members ∷ c.tally.nops ∷ c.tally.loads ∷ c.tally.moves ∷ c.tally.saves ∷ c.fullest ∷ []

-- the answer in document 01's terms: the eight counts, or number and index
abbrev pub report : Result Counts Refusal → Report
report (Ok c) = answered (values_in c)
report (Err r) = refused (number_of r.question) r.index

-- by the verdict, what is answered, and what the slices then hold of what they held
pub record Leaves (v : Verdict) (s : Settings) (list table : List ℕ) (held now : Lent) (given : Result Counts Refusal) : Type 0 where
  pub answer : report given ≡ unless v (counts_of s list table)
  pub out : now.out ≡ left v (reduced s list table) held.out
  pub colours : now.colours ≡ left v (colours_of s list table) held.colours
  pub ends : now.ends ≡ left v (ends_of list) held.ends
  pub set : now.set ≡ left v (words_of (members_of s list table)) held.set
