-- Inner: what the last walk and all walks together do to the lent slices.
use Rattle.std.specs.Prelude.{ℕ, ◌+◌, ◌*◌, ◌/◌, ◌%◌, ◌<◌, ◌≤◌, Bool, true, cond, List, map, [], ◌∷◌, ◌++◌, ◌≡◌, length, get_or, take, drop, Option}
use Rattle.mir.specs.declared.config.Settings.{Settings}
use Rattle.mir.specs.Records.{records, is_gen}
use Rattle.mir.specs.Questions.{partner_fits}
use Rattle.mir.specs.Renaming.{one, gens, renamed}
use Rattle.mir.specs.declared.rename.Renaming.{Renaming}
use Rattle.mir.specs.Shapes.{any, shape_for, dests}
use Rattle.walks.specs.declared.contract.Tally.{Tally}
use Rattle.passes.specs.declared.alloc.Outcome.{Outcome}
use Rattle.passes.specs.declared.alloc.Outcome.TheVariants.{Kept, Nop, Load, Move, Save}
use Rattle.passes.specs.declared.symbol.Loc.{Loc}
use Rattle.passes.specs.Create.{ends_of}
use Rattle.passes.specs.Machine.{Passing}
use Rattle.walks.specs.declared.Counts.{Counts}
use Rattle.walks.specs.Lent.{Lent, values_in}
use Rattle.passes.specs.Contract.{is_kept, outcome_of, colours_of, members_of, count_of, reduced, counts_of, words_of}
use Rattle.mir.specs.Answers.{over}
use Rattle.mir.specs.Inner.{with_part}
use Rattle.coloring.specs.Coloring.{source_words, was_found, marked_ends}

-- question 4 answered yes, of the numbers of words: each lent slice is long enough
pub record Roomy (list table out colours ends set : ℕ) : Type 0 where
  pub for_out : list ≤ out
  pub for_colours : list / 8 * 2 ≤ colours
  pub for_ends : list / 8 * 2 ≤ ends
  pub for_set : list / 8 * 4 + table ≤ set

-- and each is long enough for the walks over a list that passes: the set for the list's members
pub record Fits (s : Settings) (list table : List ℕ) (out colours ends set : ℕ) : Type 0 where
  pub for_out : length list ≤ out
  pub for_colours : length list / 8 * 2 ≤ colours
  pub for_ends : length list / 8 * 2 ≤ ends
  pub for_set : length (members_of s list table) * 2 ≤ set

-- ---- the last walk

-- destinations in colours, from static n on
unfoldable pub dest_words : List ℕ → ℕ → List ℕ → List ℕ
dest_words [] n colours = []
dest_words (w ∷ ws) n colours = cond (is_gen w) (get_or colours n 0) w ∷ dest_words ws (n + one w) colours

-- a record in colours
unfoldable pub rewritten : List (Option ℕ) → ℕ → List ℕ → List ℕ → List ℕ
rewritten regs n colours rec =
    let shape = shape_for rec in
    take shape.regs rec
    ++ (dest_words (dests rec) n colours
    ++ (source_words regs colours rec ++ drop (shape.regs + (shape.dsts + shape.srcs)) rec))

-- one record more
abbrev pub tallied : Outcome → Tally → Tally
tallied Kept t = record { records = t.records + 1; nops = t.nops; loads = t.loads; moves = t.moves; saves = t.saves }
tallied Nop t = record { records = t.records; nops = t.nops + 1; loads = t.loads; moves = t.moves; saves = t.saves }
tallied Load t = record { records = t.records; nops = t.nops; loads = t.loads + 1; moves = t.moves; saves = t.saves }
tallied Move t = record { records = t.records; nops = t.nops; loads = t.loads; moves = t.moves + 1; saves = t.saves }
tallied Save t = record { records = t.records; nops = t.nops; loads = t.loads; moves = t.moves; saves = t.saves + 1 }

-- no count has come to n yet
abbrev pub Short : Tally → ℕ → Type 0
Short t n = (t.records < n) × (t.nops < n) × (t.loads < n) × (t.moves < n) × (t.saves < n)

-- the output, with a record put at a place if it is kept
abbrev pub put_if : Bool → ℕ → List ℕ → List ℕ → List ℕ
put_if kept at rec out = cond kept (with_part at (length rec) rec out) out

-- what becomes of a record
abbrev pub outcome_in : ℕ → List Loc → List (Option ℕ) → ℕ → List ℕ → List ℕ → List ℕ → Outcome
outcome_in fixed members regs n colours ends rec = outcome_of fixed members (was_found (dests rec) n ends) (rewritten regs n colours rec)

-- a turn of the last walk: what it asks of a record, the slices and the counts, and what it leaves
pub record MayTurn (rec : List ℕ) (r : Renaming) (colours ends : ℕ) (t : Tally) (out : ℕ) : Type 0 where
  pub partner_fits : partner_fits rec ≡ true
  pub few : r.statics + 1 < any
  pub colours_room : r.statics + 2 ≤ colours
  pub ends_room : r.statics + 2 ≤ ends
  pub short : Short t any
  pub out_room : t.records * 8 + 8 ≤ out

-- the ends of a record's statics, without marks
abbrev pub unmarked : ℕ → ℕ → List ℕ → List ℕ
unmarked first made ends = with_part first made (map (λ end. end % 65536) (take made (drop first ends))) ends

pub record Turned (fixed : ℕ) (members : List Loc) (colours rec : List ℕ) (r r' : Renaming) (ends ends' : List ℕ) (t t' : Tally) (out out' : List ℕ) : Type 0 where
  pub regs_are : r'.regs ≡ renamed rec r.statics r.regs
  pub statics_are : r'.statics ≡ r.statics + gens (dests rec)
  pub ends_are : ends' ≡ unmarked r.statics (gens (dests rec)) ends
  pub tally_is : t' ≡ tallied (outcome_in fixed members r.regs r.statics colours ends rec) t
  pub out_is : out' ≡ put_if (is_kept (outcome_in fixed members r.regs r.statics colours ends rec)) (t.records * 8) (rewritten r.regs r.statics colours rec) out

-- what the second walk leaves: the words that the slices of colours and of marked ends start with, and the read set
pub record Colored (s : Settings) (list table colours ends : List ℕ) (members : List Loc) : Type 0 where
  pub passing : Passing s list table
  pub colours_room : records list * 2 ≤ length colours
  pub ends_room : records list * 2 ≤ length ends
  pub colours_start : colours ≡ over (colours_of s list table) colours
  pub ends_start : ends ≡ over (marked_ends s list table) ends
  pub members_are : members ≡ members_of s list table

-- what the last walk gives: the counts, the ends without marks, and the reduced list
pub record Contracted (s : Settings) (list table : List ℕ) (r : Tally) (ends ends' out out' : List ℕ) : Type 0 where
  pub records : r.records ≡ count_of Kept s list table
  pub nops : r.nops ≡ count_of Nop s list table
  pub loads : r.loads ≡ count_of Load s list table
  pub moves : r.moves ≡ count_of Move s list table
  pub saves : r.saves ≡ count_of Save s list table
  pub ends_left : ends' ≡ over (ends_of list) ends
  pub out_left : out' ≡ over (reduced s list table) out

-- what the walks give, one after the other, on a list that passes
pub record Reduces (s : Settings) (list table : List ℕ) (held now : Lent) (r : Counts) : Type 0 where
  pub counts : values_in r ≡ counts_of s list table
  pub out : now.out ≡ over (reduced s list table) held.out
  pub colours : now.colours ≡ over (colours_of s list table) held.colours
  pub ends : now.ends ≡ over (ends_of list) held.ends
  pub set : now.set ≡ over (words_of (members_of s list table)) held.set
