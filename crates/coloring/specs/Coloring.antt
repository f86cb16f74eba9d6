-- Inner: what the second walk does to the colours' state and the lent slices.
use Rattle.std.specs.Prelude.{ℕ, zero, suc, ◌+◌, ◌<◌, Bool, true, cond, ◌&&◌, not, max, List, [], ◌∷◌, ◌++◌, map, ◌≡◌, leb, eqb, length, get_or, set, Option}
use Rattle.mir.specs.declared.config.Settings.{Settings}
use Rattle.mir.specs.Records.{records, is_gen, word_at}
use Rattle.mir.specs.Renaming.{one}
use Rattle.mir.specs.Shapes.{shape_for, dests, sources}
use Rattle.colours.specs.declared.allocs.Allocs.{Allocs}
use Rattle.colours.specs.Colours.{allocs_in, Stands}
use Rattle.passes.specs.declared.alloc.Alloc.{Alloc}
use Rattle.passes.specs.declared.alloc.Choice.{Choice}
use Rattle.passes.specs.declared.alloc.Choice.TheVariants.{Found, Free, Empty}
use Rattle.passes.specs.declared.symbol.Loc.{Loc}
use Rattle.passes.specs.Color.{Coloring, Setup, setup, choice_for, after_dest, dests_at, color_to, choose, chosen, assign, is_found, source_word}
use Rattle.passes.specs.Color.{needed, held_by, want_x, want_y, wanted, update_allocs, loc_of, reads, pairs_from}
use Rattle.passes.specs.Create.{ends_of}

-- the colours' state, beside the lent slices of colours and of ends
pub record Slices : Type 0 where
  pub allocs : List Alloc
  pub colours : List ℕ
  pub ends : List ℕ

abbrev pub slices : List Alloc → List ℕ → List ℕ → Slices
slices allocs colours ends = record { allocs = allocs; colours = colours; ends = ends }

-- what is lent to a step: the colours, and the two slices
abbrev pub slices_in : Allocs → List ℕ → List ℕ → Slices
slices_in a colours ends = slices (allocs_in a.lives a.locs) colours ends

-- what is lent is these slices, and the masks tell of their colours at instruction i
pub record SlicesAre (n i : ℕ) (σ : Slices) (a : Allocs) (words marked : List ℕ) : Type 0 where
  pub allocs : Stands n i a σ.allocs
  pub colours : words ≡ σ.colours
  pub ends : marked ≡ σ.ends

-- until the last walk has seen it, the end of a static whose location was found is marked: an end is an index below 65,536
abbrev pub mark : Bool → ℕ
mark found = cond found 65536 0

-- one destination, `next` being its static
unfoldable pub dest_step : ℕ → ℕ → ℕ → ℕ → Option Loc → Slices → Slices
dest_step n i next w held σ =
    let choice = choose n i held σ.allocs in
    cond (is_gen w)
    (record {
      allocs = assign σ.allocs (chosen choice) (get_or σ.ends next 0) held;
      colours = set σ.colours next (chosen choice);
      ends = set σ.ends next (get_or σ.ends next 0 + mark (is_found choice));
    })
    σ

unfoldable pub dest_steps : ℕ → ℕ → ℕ → List (ℕ × Option Loc) → Slices → Slices
dest_steps n i next [] σ = σ
dest_steps n i next (d ∷ ds) σ = dest_steps n i (next + one d.0) ds (dest_step n i next d.0 d.1 σ)

-- how many colours are needed past instruction i once a destination has made its choice, where it makes one; and the most that any of
-- the destinations leaves
abbrev pub dest_needed : ℕ → ℕ → ℕ → Slices → ℕ
dest_needed n i w σ = cond (is_gen w) (needed n i σ.allocs) 0

unfoldable pub most_needed : ℕ → ℕ → ℕ → List (ℕ × Option Loc) → Slices → ℕ
most_needed n i next [] σ = 0
most_needed n i next (d ∷ ds) σ =
    let after = dest_step n i next d.0 d.1 σ in
    max (dest_needed n i d.0 after) (most_needed n i (next + one d.0) ds after)

-- a choice that is not `Empty`
abbrev pub Picks : Choice → Type 0
Picks (Found c) = Unit {0}
Picks (Free c) = Unit {0}
Picks Empty = ⊥

-- the choice of a destination picks a colour, for a static whose end is not marked; and so does each choice of the destinations
abbrev pub ReadyFor : ℕ → ℕ → ℕ → ℕ → Option Loc → Slices → Type 0
ReadyFor n i next w held σ = is_gen w ≡ true → Picks (choose n i held σ.allocs) × (get_or σ.ends next 0 < 65536)

abbrev pub Ready : ℕ → ℕ → ℕ → List (ℕ × Option Loc) → Slices → Type 0
Ready n i next [] σ = Unit {0}
Ready n i next (d ∷ ds) σ =
    ReadyFor n i next d.0 d.1 σ × Ready n i (next + one d.0) ds (dest_step n i next d.0 d.1 σ)

-- each of the coloured words is one of the n colours, or a named register
abbrev pub Coloured : ℕ → List ℕ → Type 0
Coloured n ws = (j : ℕ) → j < length ws → get_or ws j 0 < 256 → get_or ws j 0 < n

-- one record
abbrev pub source_words : List (Option ℕ) → List ℕ → List ℕ → List ℕ
source_words regs colours rec = map (source_word regs colours) (sources rec)

abbrev pub wanted_by : List (Option ℕ) → List ℕ → Slices → List (ℕ × Option Loc)
wanted_by regs rec σ =
    wanted (dests rec)
    (want_x (shape_for rec).action (loc_of rec) (held_by σ.allocs (get_or (source_words regs σ.colours rec) 0 0)))
    (want_y (shape_for rec).action (loc_of rec))

unfoldable pub record_step : ℕ → ℕ → ℕ → List (Option ℕ) → List ℕ → Slices → Slices
record_step n i next regs rec σ =
    let srcs = source_words regs σ.colours rec in
    let given = dest_steps n i next (wanted_by regs rec σ) σ in
    record {
      allocs = update_allocs (shape_for rec).action (loc_of rec) (get_or srcs 0 0) (get_or srcs 1 0) given.allocs;
      colours = given.colours;
      ends = given.ends;
    }

-- whether every destination was found, by the marks
unfoldable pub was_found : List ℕ → ℕ → List ℕ → Bool
was_found [] next ends = true
was_found (w ∷ ws) next ends = is_gen w && leb 65536 (get_or ends next 0) && was_found ws (next + one w) ends

-- the locations that a record reads
abbrev pub reads_of : List ℕ → List ℕ → Bool → List Loc
reads_of table rec found =
    reads (shape_for rec).action found (loc_of rec) (pairs_from table (word_at rec 1) (word_at rec 2)) (not (eqb (shape_for rec).loc 0))

-- the statics whose location was found, in order: those of a record's destinations, and those before record i
unfoldable pub founds_for : ℕ → ℕ → List ℕ → List (ℕ × Option Loc) → Coloring → List Bool
founds_for n i ends [] st = []
founds_for n i ends (d ∷ ds) st =
    cond (is_gen d.0) (is_found (choice_for n i d.1 st) ∷ []) [] ++ founds_for n i ends ds (after_dest n i ends d.0 d.1 st)

unfoldable pub founds_to : Setup → ℕ → List Bool
founds_to u zero = []
founds_to u (suc i) = founds_to u i ++ founds_for u.count i u.ends (dests_at u i (color_to u i)) (color_to u i)

-- the ends with their marks
unfoldable pub marked : List Bool → List ℕ → List ℕ
marked [] ends = ends
marked (f ∷ fs) [] = []
marked (f ∷ fs) (e ∷ es) = (e + mark f) ∷ marked fs es

-- the ends, marked where the static was found
abbrev pub marked_ends : Settings → List ℕ → List ℕ → List ℕ
marked_ends s list table = marked (founds_to (setup s list table) (records list)) (ends_of list)
