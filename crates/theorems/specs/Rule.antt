-- Public: colouring with another rule for what joins the read set: the original's, by which x alone decides on a two-part load. It moves
-- no colour.
use Rattle.std.specs.Prelude.{◌≡◌, ℕ, zero, suc, Bool, false, ◌&&◌, not, List, [], ◌∷◌, Option, eqb}
use Rattle.mir.specs.Records.{record_at, word_at, is_gen}
use Rattle.mir.specs.Shapes.{shape_for}
use Rattle.passes.specs.declared.symbol.Loc.{Loc}
use Rattle.passes.specs.Color.{Setup, Coloring, loc_of, pairs_from, reads, joined, is_found, choice_for, dests_at, color_step, color_to}

-- two states with the same colours
pub record Alike (a b : Coloring) : Type 0 where
  pub allocs : a.allocs ≡ b.allocs
  pub colours : a.colours ≡ b.colours

-- the colouring before record i, where `joins` says what joins the read set
unfoldable pub color_by : Setup → (ℕ → Coloring → List Loc) → ℕ → Coloring
color_by u joins zero = color_to u zero
color_by u joins (suc i) =
    let st = color_by u joins i in
    record { allocs = (color_step u i st).allocs; colours = (color_step u i st).colours; members = joined st.members (joins i st) }

-- the original's rule: a load of either kind joins unless x was found
abbrev pub x_found : Setup → ℕ → List (ℕ × Option Loc) → Coloring → Bool
x_found u i [] st = false
x_found u i (d ∷ ds) st = is_gen d.0 && is_found (choice_for u.count i d.1 st)

abbrev pub joins_by_x : Setup → ℕ → Coloring → List Loc
joins_by_x u i st =
    let rec = record_at u.list i in
    reads (shape_for rec).action (x_found u i (dests_at u i st) st) (loc_of rec) (pairs_from u.table (word_at rec 1) (word_at rec 2)) (not (eqb (shape_for rec).loc 0))

-- whatever joins, and so by that rule
abbrev pub SameColours : Type 0
SameColours = (u : Setup) (joins : ℕ → Coloring → List Loc) (i : ℕ) → Alike (color_by u joins i) (color_to u i)

abbrev pub RuleMovesNoColour : Type 0
RuleMovesNoColour = (u : Setup) (i : ℕ) → Alike (color_by u (joins_by_x u) i) (color_to u i)
