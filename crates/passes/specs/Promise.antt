-- Public: what is promised of a list that is accepted and of what it is reduced to, in full, down to each register, cell and choice; and
-- lists that the promise tells apart. Operations promise it by `Keeps`; laws say that all of this follows from that.
use Rattle.std.specs.Prelude.{◌≡◌, ℕ, ◌<◌, ◌≤◌, Bool, true, false, List, [], ◌∷◌, ◌⊎◌, take, get_or, Option, None}
use Rattle.mir.specs.declared.config.Settings.{Settings}
use Rattle.mir.specs.Answers.{Verdict, Passed}
use Rattle.mir.specs.Records.{flat, records, is_gen, fixed_mark}
use Rattle.passes.specs.declared.symbol.Loc.{Loc}
use Rattle.passes.specs.Color.{Setup, setup, Coloring, colour_at, choice_for, is_found, after_dests, dests_at, color_to, PoolsNeverEmpty}
use Rattle.passes.specs.Instructions.{mem, ret, mov, load, uni, plus, label, branch_if}
use Rattle.passes.specs.Machine.{State, Word, on_words, run, EndsIn, AllStraight, AllCovered, Preserves, Keeps}

-- ---- the choices

-- destination k of record i with the location that it is wanted with, a named register where there is none; and the state before it
abbrev pub dest_of : Setup → (i k : ℕ) → ℕ × Option Loc
dest_of u i k = get_or (dests_at u i (color_to u i)) k (256, None)

abbrev pub before_dest : Setup → (i k : ℕ) → Coloring
before_dest u i k = after_dests u.count i u.ends (take k (dests_at u i (color_to u i))) (color_to u i)

-- a Gen destination's choice is found, or a colour below the count is needed up to this record at most
abbrev pub EachChoice : Setup → Type 0
EachChoice u =
    (i k : ℕ) → i < records u.list → is_gen (dest_of u i k).0 ≡ true
    → (is_found (choice_for u.count i (dest_of u i k).1 (before_dest u i k)) ≡ true)
    ⊎ ((c : ℕ) × (c < u.count) × ((colour_at (before_dest u i k).allocs c).life ≤ i))

-- ---- the runs

-- what is looked at after two runs: the named registers, all Mem and Param cells, and the Stack cells below the fixed mark
pub record EndAlike (s : Settings) (a b : State Word) : Type 0 where
  pub named : (r : ℕ) → 256 ≤ r → r ≤ 259 → a.reg r ≡ b.reg r
  pub mem : (i : ℕ) → a.cell 1 i ≡ b.cell 1 i
  pub param : (i : ℕ) → a.cell 2 i ≡ b.cell 2 i
  pub stack : (i : ℕ) → i < fixed_mark s → a.cell 0 i ≡ b.cell 0 i

-- a list without branches, and what it is reduced to
abbrev pub StraightAlike : Settings → (a b : List ℕ) → Type 0
StraightAlike s a b =
    (U : ℕ → Word → Word) (B : ℕ → Word → Word → Word) (F : ℕ → Word → Word → Word → Word)
    (X Y : ℕ → Word → Word → Word → Word → Word) (J : Word → ℕ → Bool) (start : State Word)
    → EndAlike s (run (on_words U B F X Y J) a start) (run (on_words U B F X Y J) b start)

-- a list with branches, whose run reaches its end in n steps, in state z: the other's run does so in some number of steps that is at most n
abbrev pub BranchesAlike : Settings → (a b : List ℕ) → Type 0
BranchesAlike s a b =
    (U : ℕ → Word → Word) (B : ℕ → Word → Word → Word) (F : ℕ → Word → Word → Word → Word)
    (X Y : ℕ → Word → Word → Word → Word → Word) (J : Word → ℕ → Bool) (start : State Word) (n : ℕ) (z : State Word)
    → EndsIn (on_words U B F X Y J) a start n z
    → (steps : ℕ) × (end : State Word) × (steps ≤ n) × EndsIn (on_words U B F X Y J) b start steps end × EndAlike s z end

-- ---- the promise

-- of a list with its table, and of what it is reduced to
pub record InFull (s : Settings) (list table short : List ℕ) : Type 0 where
  pub choices : EachChoice (setup s list table)
  pub straight : AllStraight list → StraightAlike s list short
  pub branches : AllCovered list → BranchesAlike s list short

-- it follows from the promise, whatever the verdict goes by and whatever lists these are: so from nothing else
abbrev pub PromiseInFull : Type 0
PromiseInFull =
    (v : Verdict) (s : Settings) (list table short : List ℕ)
    → Keeps v s list table short → v ≡ Passed → InFull s list table short

-- ---- lists that the promise tells apart

-- so many registers, no args and no flag
abbrev pub with_registers : ℕ → Settings
with_registers n = record { count_regs = n; args = 0; complex = false; arm = false; compress = false }

-- two values that a third record needs both
abbrev pub both_needed : List ℕ
both_needed = flat (load 0 mem 0 ∷ load 1 mem 1 ∷ plus 0 0 1 ∷ [])

pub record PromiseTold : Type 0 where
  -- a list without branches whose last word is lost, and one with a branch that is answered otherwise
  pub straight : (s : Settings) → Preserves s (flat (mov ret 0 ∷ [])) [] → ⊥
  pub branches :
      (s : Settings)
      → Preserves s (flat (branch_if 0 7 0 ∷ uni 1 ret 0 ∷ label 7 ∷ [])) (flat (branch_if 0 7 1 ∷ uni 1 ret 0 ∷ label 7 ∷ []))
      → ⊥
  -- with one register the second load has no colour in its pool; with two each has
  pub one_register : PoolsNeverEmpty (with_registers 1) both_needed [] → ⊥
  pub two_registers : PoolsNeverEmpty (with_registers 2) both_needed []
