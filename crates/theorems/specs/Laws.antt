-- Public: what holds of each list that passes, of the list that it is reduced to, and of their runs.
use Rattle.std.specs.Prelude.{◌≡◌, ℕ, ◌+◌, ◌*◌, ◌/◌, ◌<◌, ◌≤◌, true, false, List, [], ◌∷◌, length, get_or, eqb}
use Rattle.mir.specs.declared.config.Settings.{Settings}
use Rattle.mir.specs.Branches.{label_at, is_branch, label_of}
use Rattle.mir.specs.Questions.{shape_no}
use Rattle.mir.specs.Records.{records, record_at, word_at, fixed_mark}
use Rattle.mir.specs.Renaming.{statics_to}
use Rattle.mir.specs.Shapes.{branch_if}
use Rattle.passes.specs.declared.alloc.Outcome.TheVariants.{Kept, Nop, Load, Move, Save}
use Rattle.passes.specs.declared.symbol.Loc.{Loc}
use Rattle.passes.specs.Create.{ends_of}
use Rattle.passes.specs.Color.{Setup, setup, is_member, color_to, PoolsNeverEmpty, no_gen_source}
use Rattle.passes.specs.Contract.{reduced, colours_of, count_to, count_of, fullest_of, out_at}
use Rattle.passes.specs.Machine.{Meaning, State, run, target, EndsIn, AllScalar, AllStraight, AllCovered, Passing, EndsEqual, KeepsUp, Preserves}

-- ---- the pool

abbrev pub PoolNeverEmpty : Type 0
PoolNeverEmpty = (s : Settings) (list table : List ℕ) → Passing s list table → PoolsNeverEmpty s list table

-- ---- runs, over values of any type and under every meaning of the operations

-- a list of the covered kinds whose run reaches its end in n steps: the reduced list's run does so in at most n, and they end equal
abbrev pub ListsKeepUp : Type 0 → Type 0
ListsKeepUp Value =
    (s : Settings) (list table : List ℕ) → Passing s list table → AllCovered list
    → (m : Meaning Value) (start : State Value) (n : ℕ) (z : State Value) → EndsIn m list start n z → KeepsUp s m (reduced s list table) start n z

-- a list of straight kinds and its reduced list end equal
abbrev pub ListsEndEqual : Type 0 → Type 0
ListsEndEqual Value =
    (s : Settings) (list table : List ℕ) → Passing s list table → AllStraight list
    → (m : Meaning Value) (start : State Value) → EndsEqual s (run m list start) (run m (reduced s list table) start)

-- the machine with branches runs a list of straight kinds to its end, in at most as many steps as it has records, and ends as the
-- straight machine does
abbrev pub StraightRuns : Type 0 → Type 0
StraightRuns Value =
    (m : Meaning Value) (list : List ℕ) (start : State Value) → AllStraight list
    → (n : ℕ) × (n ≤ records list) × EndsIn m list start n (run m list start)

-- the two claims on a list and its reduced list, over words, as the operations promise them
abbrev pub ListPreserved : Type 0
ListPreserved = (s : Settings) (list table : List ℕ) → Passing s list table → Preserves s list (reduced s list table)

-- scalar lists are straight ones
abbrev pub ScalarIsStraight : Type 0
ScalarIsStraight = (list : List ℕ) → AllScalar list → AllStraight list

-- ---- past a branch

-- a static that was written before a BranchIf is not read past it
abbrev pub StaleEnd : Type 0
StaleEnd =
    (s : Settings) (list table : List ℕ) → Passing s list table
    → (i t : ℕ) → i < records list → word_at (record_at list i) 0 ≡ branch_if → t < statics_to list i → get_or (ends_of list) t 0 ≤ i

-- each branch goes to a Label of its number
abbrev pub TargetLabel : Type 0
TargetLabel =
    (s : Settings) (list table : List ℕ) → Passing s list table
    → (i : ℕ) → i < records list → is_branch (record_at list i) ≡ true
    → (target list (label_of (record_at list i)) < records list)
    × (label_at list (label_of (record_at list i)) (target list (label_of (record_at list i))) ≡ true)

-- a branch of the reduced list goes to where the list's branch goes, by how many records before it are kept
abbrev pub TargetSame : Type 0
TargetSame =
    (s : Settings) (list table : List ℕ) → Passing s list table
    → (name : ℕ) → target (reduced s list table) name ≡ count_to Kept (fixed_mark s) (setup s list table) (target list name)

-- ---- the reduced list

-- a record is put out with eight words
abbrev pub OutLength : Type 0
OutLength = (u : Setup) (i : ℕ) → i < records u.list → length (out_at u i) ≡ 8

-- the reduced list has as many records as are kept
abbrev pub ReducedLength : Type 0
ReducedLength = (s : Settings) (list table : List ℕ) → length (reduced s list table) ≡ count_of Kept s list table * 8

-- records in are records out and the four dropped counts
abbrev pub CountsAdd : Type 0
CountsAdd =
    (s : Settings) (list table : List ℕ)
    → count_of Kept s list table + (count_of Nop s list table + (count_of Load s list table + (count_of Move s list table + count_of Save s list table)))
    ≡ records list

-- each record in colours passes questions 5 to 7, whether it is kept or not
abbrev pub OutPasses : Type 0
OutPasses =
    (s : Settings) (list table : List ℕ) → Passing s list table
    → (i : ℕ) → i < records list → shape_no table s.count_regs (out_at (setup s list table) i) ≡ 0

-- and so does each record of the reduced list
abbrev pub ReducedPasses : Type 0
ReducedPasses =
    (s : Settings) (list table : List ℕ) → Passing s list table
    → (k : ℕ) → k < records (reduced s list table) → shape_no table s.count_regs (record_at (reduced s list table) k) ≡ 0

-- ---- the statics and the read set

-- a list that passes has an end for each colour
abbrev pub EndsSame : Type 0
EndsSame = (s : Settings) (list table : List ℕ) → Passing s list table → length (ends_of list) ≡ length (colours_of s list table)

-- at most two members for each record so far, and one for each pair of the table
abbrev pub FewMembers : Type 0
FewMembers =
    (s : Settings) (list table : List ℕ) → Passing s list table
    → (i : ℕ) → i ≤ records list → length (color_to (setup s list table) i).members ≤ i * 2 + length table / 2

-- each location stands once
abbrev pub Once : List Loc → Type 0
Once [] = Unit {0}
Once (m ∷ ms) = (is_member m ms ≡ false) × Once ms

abbrev pub MembersOnce : Type 0
MembersOnce = (u : Setup) (i : ℕ) → Once (color_to u i).members

-- ---- how full the registers get

-- never more than there are
abbrev pub FullestFits : Type 0
FullestFits = (s : Settings) (list table : List ℕ) → fullest_of s list table ≤ s.count_regs

-- 0 exactly where no record has a Gen source
abbrev pub FullestNone : Type 0
FullestNone = (s : Settings) (list table : List ℕ) → Passing s list table → eqb (fullest_of s list table) 0 ≡ no_gen_source list
