-- Public: the Arm flag changes no answer.
use Rattle.std.specs.Prelude.{◌≡◌, ℕ, Bool, List}
use Rattle.mir.specs.declared.config.Settings.{Settings}
use Rattle.mir.specs.Questions.{refusal}
use Rattle.passes.specs.declared.alloc.Outcome.{Outcome}
use Rattle.passes.specs.Contract.{reduced, colours_of, members_of, count_of, fullest_of}

unfoldable pub armed : Bool → Settings → Settings
armed arm s = record { count_regs = s.count_regs; args = s.args; complex = s.complex; arm = arm; compress = s.compress }

pub record SameAnswers (s t : Settings) (list table : List ℕ) : Type 0 where
  pub refusal : (room : Bool) → refusal room s list table ≡ refusal room t list table
  pub reduced : reduced s list table ≡ reduced t list table
  pub colours : colours_of s list table ≡ colours_of t list table
  pub members : members_of s list table ≡ members_of t list table
  pub fullest : fullest_of s list table ≡ fullest_of t list table
  pub counts : (f : Outcome) → count_of f s list table ≡ count_of f t list table

abbrev pub ArmChangesNothing : Type 0
ArmChangesNothing = (arm : Bool) (s : Settings) (list table : List ℕ) → SameAnswers (armed arm s) s list table
