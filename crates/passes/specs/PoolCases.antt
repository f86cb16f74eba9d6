-- Public: what `HasPool` tells: no pool if each of the count colours is needed, though a colour past the count is free; a pool from the
-- instruction on that is a colour's life; and none is needed for a choice that is found.
use Rattle.std.specs.Prelude.{[], ◌∷◌, Some, None}
use Rattle.passes.specs.Color.{Coloring, loc, alloc, HasPool}

-- two colours, needed up to 4 and up to 5; the second holds Mem 7
abbrev pub both : Coloring
both = record { allocs = alloc 4 None ∷ alloc 5 (Some (loc 1 7)) ∷ []; colours = []; members = [] }

pub record PoolCases : Type 0 where
  pub none : HasPool 2 3 None both → ⊥
  pub one : HasPool 2 4 None both
  pub found : HasPool 2 3 (Some (loc 1 7)) both
  pub not_found : HasPool 2 3 (Some (loc 1 8)) both → ⊥
