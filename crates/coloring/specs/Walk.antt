-- Inner: what the second walk keeps from record to record, in the definitions' words.
use Rattle.std.specs.Prelude.{ℕ, ◌+◌, ◌-◌, ◌*◌, ◌/◌, ◌<◌, ◌≤◌, List, ◌≡◌, length}
use Rattle.mir.specs.declared.config.Settings.{Settings}
use Rattle.mir.specs.Answers.{over}
use Rattle.mir.specs.Records.{records, record_at}
use Rattle.mir.specs.declared.rename.Renaming.{Renaming}
use Rattle.mir.proofs.Renaming.{Walked}
use Rattle.passes.specs.Color.{setup, color_to, fullest_at}
use Rattle.passes.specs.Contract.{members_of}
use Rattle.passes.specs.Create.{ends_of}
use Rattle.passes.specs.Machine.{Passing}
use Rattle.colours.specs.declared.allocs.Allocs.{Allocs}
use Rattle.sets.specs.declared.ReadSet.{ReadSet}
use Rattle.sets.specs.Members.{SetHolds}
use Rattle.coloring.specs.Coloring.{Slices, slices, SlicesAre, founds_to, marked}

-- the lent slices before record i
abbrev pub slices_at : Settings → List ℕ → List ℕ → List ℕ → List ℕ → ℕ → Slices
slices_at s list table C0 E0 i =
    slices (color_to (setup s list table) i).allocs (over (color_to (setup s list table) i).colours C0) (over (marked (founds_to (setup s list table) i) (ends_of list)) E0)

-- what is lent to the walk's steps
pub record State : Type 0 where
  pub allocs : Allocs
  pub colours : List ℕ
  pub ends : List ℕ

abbrev pub state : Allocs → List ℕ → List ℕ → State
state allocs colours ends = record { allocs = allocs; colours = colours; ends = ends }

-- it is the slices before record i; the masks tell of the colours at instruction j
abbrev pub Holds : Settings → List ℕ → List ℕ → List ℕ → List ℕ → ℕ → ℕ → State → Type 0
Holds s list table C0 E0 i j st = SlicesAre s.count_regs j (slices_at s list table C0 E0 i) st.allocs st.colours st.ends

-- what the walk is called with: a list that passes, and slices that have room
pub record Called (s : Settings) (list table C0 E0 : List ℕ) (S0 : ReadSet) : Type 0 where
  pub passing : Passing s list table
  pub colours_room : records list * 2 ≤ length C0
  pub ends_room : records list * 2 ≤ length E0
  pub words_room : length (members_of s list table) * 2 ≤ length S0.words.now

-- between two records the masks tell of the colours at the one before
pub record Colouring (s : Settings) (list table C0 E0 : List ℕ) (S0 : ReadSet) (i : ℕ) (st : State) (set : ReadSet) (r : Renaming) : Type 0 where
  pub called : Called s list table C0 E0 S0
  pub walked : Walked list i r
  pub holds : Holds s list table C0 E0 i (i - 1) st
  pub set_holds : SetHolds set (color_to (setup s list table) i).members S0

-- before record i of some list that passes, of which this is the record
pub record MayTurn (table : List ℕ) (i : ℕ) (rec : List ℕ) (st : State) (set : ReadSet) (r : Renaming) : Type 0 where
  pub settings : Settings
  pub list : List ℕ
  pub colours : List ℕ
  pub ends : List ℕ
  pub before : ReadSet
  pub coloring : Colouring settings list table colours ends before i st set r
  pub within : i < length list / 8
  pub here : rec ≡ record_at list i

-- the record's turn: what the walk keeps, it keeps after the record too, whatever list the record is of, and it tells how full the
-- registers got
abbrev pub Turned : List ℕ → ℕ → List ℕ → State → ReadSet → Renaming → State → ReadSet → Renaming → ℕ → Type 0
Turned table i rec st set r st' set' r' most =
    (s : Settings) (list C0 E0 : List ℕ) (S0 : ReadSet) → Colouring s list table C0 E0 S0 i st set r
    → i < length list / 8 → rec ≡ record_at list i
    → Colouring s list table C0 E0 S0 (i + 1) st' set' r' × (most ≡ fullest_at (setup s list table) i)
