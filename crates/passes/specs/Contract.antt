-- Public, document 01, section 4: contracting. What becomes of each record, the reduced list, and the counts.
use Rattle.std.specs.Prelude.{ℕ, zero, suc, ◌+◌, Bool, true, false, cond, ◌&&◌, ◌||◌, not, List, [], ◌∷◌, ◌++◌, leb, eqb, length}
use Rattle.mir.specs.declared.config.Settings.{Settings}
use Rattle.mir.specs.declared.shape.Action.{Action}
use Rattle.mir.specs.declared.shape.Action.TheVariants as action
use Rattle.mir.specs.Records.{records, word_at, fixed_mark}
use Rattle.mir.specs.Shapes.{shape_for, nop, mov, save, save_complex}
use Rattle.passes.specs.declared.alloc.Outcome.{Outcome}
use Rattle.passes.specs.declared.alloc.Outcome.TheVariants.{Kept, Nop, Load, Move, Save}
use Rattle.passes.specs.declared.symbol.Loc.{Loc}
use Rattle.passes.specs.Color.{Setup, setup, color_to, colored, found_at, loc_of, partner, is_member, fullest_to}

-- a load of either kind is dropped if it was found
abbrev pub is_load : Action → Bool
is_load action.Load = true
is_load action.LoadComplex = true
is_load action.Mov = false
is_load action.Save = false
is_load action.SaveComplex = false
is_load action.LoadArgs = false
is_load action.Clear = false
is_load action.Other = false

-- nobody looks at the cell after the run: Stack at or above the fixed mark
abbrev pub is_beyond : ℕ → Loc → Bool
is_beyond mark l = eqb l.space 0 && leb mark l.index

-- what becomes of a coloured record: `found` says that it is a load that was found, and `members` is the whole read set. A
-- SaveComplex there stays if either half is a member (document 02, request 1)
unfoldable pub outcome_of : ℕ → List Loc → Bool → List ℕ → Outcome
outcome_of mark members found rec =
    let kind = word_at rec 0 in
    let l = loc_of rec in
    cond (eqb kind nop) Nop
    (cond (is_load (shape_for rec).action && found) Load
    (cond (eqb kind mov && eqb (word_at rec 1) (word_at rec 2)) Move
    (cond (eqb kind save && (is_beyond mark l && not (is_member l members))) Save
    (cond (eqb kind save_complex && (is_beyond mark l && not (is_member l members || is_member (partner l) members))) Save
    Kept))))

-- record i of a list: what it is rewritten to, and what becomes of it; u is the list's setup
abbrev pub read_set : Setup → List Loc
read_set u = (color_to u (records u.list)).members

unfoldable pub out_at : Setup → ℕ → List ℕ
out_at u i = colored u i (color_to u i)

unfoldable pub outcome_at : ℕ → Setup → ℕ → Outcome
outcome_at mark u i = outcome_of mark (read_set u) (found_at u i (color_to u i)) (out_at u i)

abbrev pub is_kept : Outcome → Bool
is_kept Kept = true
is_kept Nop = false
is_kept Load = false
is_kept Move = false
is_kept Save = false

-- the reduced list: the records that are kept, in order
unfoldable pub reduced_to : ℕ → Setup → ℕ → List ℕ
reduced_to mark u zero = []
reduced_to mark u (suc i) = reduced_to mark u i ++ cond (is_kept (outcome_at mark u i)) (out_at u i) []

unfoldable pub reduced : Settings → List ℕ → List ℕ → List ℕ
reduced s list table = reduced_to (fixed_mark s) (setup s list table) (records list)

-- the statics in order, each with its colour (its end is in `ends_of`), and the read set's members in joining order
unfoldable pub colours_of : Settings → List ℕ → List ℕ → List ℕ
colours_of s list table = (color_to (setup s list table) (records list)).colours

unfoldable pub members_of : Settings → List ℕ → List ℕ → List Loc
members_of s list table = read_set (setup s list table)

-- locations as words, two each
unfoldable pub words_of : List Loc → List ℕ
words_of [] = []
words_of (l ∷ ls) = l.space ∷ l.index ∷ words_of ls

-- how many of the first n records have an outcome
abbrev pub outcome_number : Outcome → ℕ
outcome_number Kept = 0
outcome_number Nop = 1
outcome_number Load = 2
outcome_number Move = 3
outcome_number Save = 4

unfoldable pub count_to : Outcome → ℕ → Setup → ℕ → ℕ
count_to f mark u zero = 0
count_to f mark u (suc i) = count_to f mark u i + cond (eqb (outcome_number (outcome_at mark u i)) (outcome_number f)) 1 0

unfoldable pub count_of : Outcome → Settings → List ℕ → List ℕ → ℕ
count_of f s list table = count_to f (fixed_mark s) (setup s list table) (records list)

-- how full the registers got: the most colours that any choice left needed (document 02, request 7)
unfoldable pub fullest_of : Settings → List ℕ → List ℕ → ℕ
fullest_of s list table = fullest_to (setup s list table) (records list)

-- what the result counts: records, statics and set members, dropped nops, loads, moves and saves, and how full the registers got
unfoldable pub counts_of : Settings → List ℕ → List ℕ → List ℕ
counts_of s list table =
    count_of Kept s list table
    ∷ length (colours_of s list table)
    ∷ length (members_of s list table)
    ∷ count_of Nop s list table
    ∷ count_of Load s list table
    ∷ count_of Move s list table
    ∷ count_of Save s list table
    ∷ fullest_of s list table
    ∷ []
