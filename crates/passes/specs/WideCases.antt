-- Public: the last of 64 registers and of 64 colours: it has a place in the state, takes a static and a location, is chosen if no other
-- one is free, and found if it holds the location; one colour fewer, and the pool is empty.
use Rattle.std.specs.Prelude.{◌≡◌, List, [], ◌∷◌, ◌++◌, length, get_or, replicate, Some, None}
use Rattle.mir.specs.Renaming.{fresh, produced}
use Rattle.passes.specs.declared.alloc.Alloc.{Alloc}
use Rattle.passes.specs.declared.alloc.Choice.TheVariants.{Found, Free, Empty}
use Rattle.passes.specs.declared.symbol.Loc.{Loc}
use Rattle.passes.specs.Color.{loc, alloc, colour_at, blank, choose, chosen, assign, held_by, give}

abbrev pub cell : Loc
cell = loc 1 7

-- 63 colours that are needed up to 9, and one more
abbrev pub needed : Alloc → List Alloc
needed last = replicate 63 (alloc 9 None) ++ last ∷ []

pub record WideCases : Type 0 where
  pub registers : length fresh ≡ 64
  pub colours : length blank ≡ 64
  pub static : get_or (produced (63 ∷ []) 5 fresh) 63 None ≡ Some 5
  pub no_static : get_or (produced (62 ∷ []) 5 fresh) 63 (Some 0) ≡ None
  pub assigned : colour_at (assign blank 63 5 (Some cell)) 63 ≡ alloc 5 (Some cell)
  pub given : held_by (give 63 cell blank) 63 ≡ Some cell
  pub free : choose 64 5 None (needed (alloc 5 None)) ≡ Free 63
  pub free_for_a_cell : choose 64 5 (Some cell) (needed (alloc 5 None)) ≡ Free 63
  pub found : choose 64 5 (Some cell) (needed (alloc 9 (Some cell))) ≡ Found 63
  pub one_fewer : choose 63 5 (Some cell) (needed (alloc 5 (Some cell))) ≡ Empty
  -- what is read for an empty pool is no colour
  pub no_colour : chosen Empty ≡ 64
