-- Inner: no promise is made in these words. How question 16 is asked: a table of the numbers of branches, from which each Label
-- takes its own.
use Rattle.std.specs.Prelude.{ℕ, ◌+◌, ◌*◌, ◌/◌, ◌%◌, ◌<◌, ◌≤◌, Bool, true, false, cond, not, ◌&&◌, List, Option, Some, None, ◌≡◌, eqb, get_or}
use Rattle.mir.specs.Branches.{is_branch, label_of}
use Rattle.mir.specs.Folds.{any_below}
use Rattle.mir.specs.Records.{records, record_at}

-- the number of the Label that a record goes to, as the code has it
abbrev pub target_of : List ℕ → Option ℕ
target_of rec = cond (is_branch rec) (Some (label_of rec)) None

-- the table of numbers: a number's slot, whose places are the eight from eight times the slot on, and a number is in the table if
-- it stands at one of them
unfoldable pub slot_of : ℕ → ℕ
slot_of number = number * 2654435761 / 8388608 % 512

unfoldable pub holds : List ℕ → ℕ → Bool
holds table number = any_below 8 (λ k. eqb (get_or table (slot_of number * 8 + k) 0) number)

-- a place is taken if the number there belongs to its slot, and else it is empty
abbrev pub Taken : List ℕ → ℕ → Type 0
Taken table p = slot_of (get_or table p 0) ≡ p / 8

abbrev pub Empty : List ℕ → Type 0
Empty table = (p : ℕ) → p < 4096 → Taken table p → ⊥

-- an empty place of slot s; from 4,096 on: there is none
pub record Room (table : List ℕ) (s p : ℕ) : Type 0 where
  pub inside : p < 4096 → p / 8 ≡ s
  pub free : p < 4096 → Taken table p → ⊥
  pub full : 4096 ≤ p → (q : ℕ) → q / 8 ≡ s → Taken table q

-- the number of a branch is put into the table, if one of its places is empty: `done` says whether it is there
pub record Put (rec before after : List ℕ) (done : Bool) : Type 0 where
  pub kept : (number : ℕ) → holds before number ≡ true → holds after number ≡ true
  pub there : done ≡ true → is_branch rec ≡ true → holds after (label_of rec) ≡ true
  pub full : done ≡ false → (p : ℕ) → p / 8 ≡ slot_of (label_of rec) → Taken before p

-- the number of each branch between two records is in the table
pub record Collected (list : List ℕ) (from until : ℕ) (table : List ℕ) : Type 0 where
  pub more : from < until
  pub within : until ≤ records list
  pub held : (i : ℕ) → from ≤ i → i < until → is_branch (record_at list i) ≡ true → holds table (label_of (record_at list i)) ≡ true

-- the numbers for which p holds are taken out of the table
abbrev pub Without : (ℕ → Bool) → List ℕ → List ℕ → Type 0
Without p before after = (number : ℕ) → holds after number ≡ (holds before number && not (p number))

-- a branch whose number is in the table
abbrev pub is_left : List ℕ → List ℕ → Bool
is_left table rec = cond (is_branch rec) (holds table (label_of rec)) false
