-- Inner: the colours' state (document 01, section 3) as the code has it, in two words of bits and two arrays of plain numbers.
use Rattle.std.specs.Prelude.{ℕ, ◌/◌, ◌%◌, cond, List, [], ◌∷◌, ◌≡◌, eqb, Option, Some, None}
use Rattle.mir.specs.declared.shape.Action.{Action}
use Rattle.mir.specs.declared.shape.Action.TheVariants as action
use Rattle.passes.specs.declared.alloc.Alloc.{Alloc}
use Rattle.passes.specs.declared.symbol.Loc.{Loc}
use Rattle.passes.specs.Color.{alloc, loc}
use Rattle.colours.specs.declared.allocs.Allocs.{Allocs}
use Rattle.colours.specs.Masks.{Masked}

-- a location as a word: the space above the index; the largest word is for none
abbrev pub nothing : ℕ
nothing = 18446744073709551615

abbrev pub loc_in : ℕ → Loc
loc_in word = loc (word / 4294967296) (word % 4294967296)

abbrev pub held_in : ℕ → Option Loc
held_in word = cond (eqb word nothing) None (Some (loc_in word))

-- the colours, by their lives and their locations
unfoldable pub allocs_in : List ℕ → List ℕ → List Alloc
allocs_in [] locs = []
allocs_in (life ∷ lives) [] = []
allocs_in (life ∷ lives) (word ∷ locs) = alloc life (held_in word) ∷ allocs_in lives locs

-- the one relation that every step keeps: the code's state is that of these colours, n of which are there, and its masks tell of them
pub record Stands (n i : ℕ) (a : Allocs) (allocs : List Alloc) : Type 0 where
  pub count : a.count ≡ n
  pub same : allocs_in a.lives a.locs ≡ allocs
  pub masked : Masked n i a.masks allocs

-- how many of a record's sources an action looks at the colours of
abbrev pub sources_used : Action → ℕ
sources_used action.Mov = 1
sources_used action.Load = 0
sources_used action.Save = 1
sources_used action.LoadComplex = 0
sources_used action.SaveComplex = 2
sources_used action.LoadArgs = 0
sources_used action.Clear = 0
sources_used action.Other = 0
