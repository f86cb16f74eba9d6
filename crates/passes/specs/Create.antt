-- Public, document 01, section 2: renaming. `regs_to` and `statics_to` (crate mir) say which static each register holds before
-- a record, and how many there are; here are the statics' ends.
use Rattle.std.specs.Prelude.{ℕ, zero, suc, cond, List, [], ◌∷◌, ◌++◌, get_or, set, replicate, Option, Some, None}
use Rattle.mir.specs.Records.{records, record_at, is_gen}
use Rattle.mir.specs.Renaming.{gens, regs_to}
use Rattle.mir.specs.Shapes.{dests, sources}

-- instruction i reads a register: the end of the static that it holds is i
abbrev pub ended_at : Option ℕ → ℕ → List ℕ → List ℕ
ended_at (Some s) i ends = set ends s i
ended_at None i ends = ends

abbrev pub consume : List (Option ℕ) → ℕ → ℕ → List ℕ → List ℕ
consume regs i w ends = cond (is_gen w) (ended_at (get_or regs w None) i ends) ends

unfoldable pub consumed : List (Option ℕ) → ℕ → List ℕ → List ℕ → List ℕ
consumed regs i [] ends = ends
consumed regs i (w ∷ ws) ends = consumed regs i ws (consume regs i w ends)

-- the ends after i records: sources are read before destinations are written, and a new static ends where it is written
unfoldable pub ends_to : List ℕ → ℕ → List ℕ
ends_to list zero = []
ends_to list (suc i) =
    consumed (regs_to list i) i (sources (record_at list i)) (ends_to list i) ++ replicate (gens (dests (record_at list i))) i

-- each static's end
unfoldable pub ends_of : List ℕ → List ℕ
ends_of list = ends_to list (records list)
