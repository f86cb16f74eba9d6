-- Public, document 01, section 3: colouring. A colour's life says up to where it is needed; it may hold the value of one
-- location.
use Rattle.std.specs.Prelude.{ℕ, zero, suc, ◌+◌, ◌*◌, ◌<◌, max, Bool, true, false, cond, ◌&&◌, ◌||◌, not, ◌⊎◌, ◌≡◌, leb, ltb, eqb}
use Rattle.std.specs.Prelude.{List, [], ◌∷◌, ◌++◌, map, length, get_or, set, take, drop, replicate, count_by, Option, Some, None}
use Rattle.mir.specs.declared.config.Settings.{Settings}
use Rattle.mir.specs.declared.shape.Action.{Action}
use Rattle.mir.specs.declared.shape.Action.TheVariants as action
use Rattle.std.specs.List.{list_all}
use Rattle.mir.specs.Folds.{all_below}
use Rattle.mir.specs.Records.{records, record_at, word_at, is_gen, max_regs}
use Rattle.mir.specs.Renaming.{regs_to}
use Rattle.mir.specs.Shapes.{shape_for, dests, sources}
use Rattle.passes.specs.declared.alloc.Alloc.{Alloc}
use Rattle.passes.specs.declared.alloc.Choice.{Choice}
use Rattle.passes.specs.declared.alloc.Choice.TheVariants.{Found, Free, Empty}
use Rattle.passes.specs.declared.symbol.Loc.{Loc}
use Rattle.passes.specs.Create.{ends_of}

-- ---- locations

abbrev pub loc : ℕ → ℕ → Loc
loc space index = record { space = space; index = index }

abbrev pub partner : Loc → Loc
partner l = loc l.space (l.index + 1)

abbrev pub same_loc : Loc → Loc → Bool
same_loc l m = eqb l.space m.space && eqb l.index m.index

-- a record's location
abbrev pub loc_of : List ℕ → Loc
loc_of rec = loc (word_at rec (shape_for rec).loc) (word_at rec ((shape_for rec).loc + 1))

-- the pairs of the table that a LoadArgs names
unfoldable pub pairs_from : List ℕ → ℕ → ℕ → List Loc
pairs_from table first zero = []
pairs_from table first (suc n) = loc (get_or table (first * 2) 0) (get_or table (first * 2 + 1) 0) ∷ pairs_from table (suc first) n

-- ---- the colours

abbrev pub alloc : ℕ → Option Loc → Alloc
alloc life held = record { life = life; loc = held }

abbrev pub colour_at : List Alloc → ℕ → Alloc
colour_at allocs c = get_or allocs c (alloc 0 None)

-- every life 0, no location
abbrev pub blank : List Alloc
blank = replicate max_regs (alloc 0 None)

-- the pool of a choice at instruction i: the colours that are free, that is whose life is at most i
abbrev pub is_free : ℕ → List Alloc → ℕ → Bool
is_free i allocs c = leb (colour_at allocs c).life i

abbrev pub holds : Option Loc → Loc → Bool
holds None l = false
holds (Some m) l = same_loc m l

abbrev pub is_nothing : Option Loc → Bool
is_nothing None = true
is_nothing (Some l) = false

abbrev pub is_bare : List Alloc → ℕ → Bool
is_bare allocs c = is_nothing (colour_at allocs c).loc

abbrev pub holds_at : List Alloc → Loc → ℕ → Bool
holds_at allocs l c = holds (colour_at allocs c).loc l

-- the first number below n for which p holds
abbrev pub or_next : Option ℕ → Option ℕ → Option ℕ
or_next (Some c) other = Some c
or_next None other = other

unfoldable pub first_below : (ℕ → Bool) → ℕ → Option ℕ
first_below p zero = None
first_below p (suc n) = or_next (first_below p n) (cond (p n) (Some n) None)

abbrev pub free_or : Option ℕ → Choice → Choice
free_or (Some c) other = Free c
free_or None other = other

abbrev pub found_or : Option ℕ → Choice → Choice
found_or (Some c) other = Found c
found_or None other = other

-- the plain choice among n colours: the first free one without a location, else the first free one; `Empty` is said
-- where the pool is empty, which never happens on a list that passes
unfoldable pub plain_choice : ℕ → ℕ → List Alloc → Choice
plain_choice n i allocs =
    free_or (first_below (λ c. is_free i allocs c && is_bare allocs c) n)
    (free_or (first_below (is_free i allocs) n) Empty)

-- the choice for a location: the first colour that holds it, free or not, is found; else as the plain choice
unfoldable pub choose : ℕ → ℕ → Option Loc → List Alloc → Choice
choose n i None allocs = plain_choice n i allocs
choose n i (Some l) allocs = found_or (first_below (holds_at allocs l) n) (plain_choice n i allocs)

abbrev pub is_found : Choice → Bool
is_found (Found c) = true
is_found (Free c) = false
is_found Empty = false

-- the colour that was chosen; for the answer that is never given, a number that is no colour
abbrev pub chosen : Choice → ℕ
chosen (Found c) = c
chosen (Free c) = c
chosen Empty = max_regs

-- giving a colour to a static that ends at `end`: its life becomes the larger, and it holds what was chosen for
abbrev pub assign : List Alloc → ℕ → ℕ → Option Loc → List Alloc
assign allocs c end held = set allocs c (alloc (max (colour_at allocs c).life end) held)

-- ---- the state: the colours, the colour of each static so far, and the read set in joining order

pub record Coloring : Type 0 where
  pub allocs : List Alloc
  pub colours : List ℕ
  pub members : List Loc

-- one destination, for the location that it is wanted with: only a Gen makes a choice, for its static, and a named
-- register stays as it is
abbrev pub choice_for : ℕ → ℕ → Option Loc → Coloring → Choice
choice_for n i held st = choose n i held st.allocs

unfoldable pub after_dest : ℕ → ℕ → List ℕ → ℕ → Option Loc → Coloring → Coloring
after_dest n i ends w held st =
    cond (is_gen w)
    (record {
      allocs = assign st.allocs (chosen (choice_for n i held st)) (get_or ends (length st.colours) 0) held;
      colours = st.colours ++ chosen (choice_for n i held st) ∷ [];
      members = st.members;
    })
    st

unfoldable pub word_for : ℕ → ℕ → ℕ → Option Loc → Coloring → ℕ
word_for n i w held st = cond (is_gen w) (chosen (choice_for n i held st)) w

-- the destinations in order, each with the location that it is wanted with
unfoldable pub after_dests : ℕ → ℕ → List ℕ → List (ℕ × Option Loc) → Coloring → Coloring
after_dests n i ends [] st = st
after_dests n i ends (d ∷ ds) st = after_dests n i ends ds (after_dest n i ends d.0 d.1 st)

unfoldable pub words_for : ℕ → ℕ → List ℕ → List (ℕ × Option Loc) → Coloring → List ℕ
words_for n i ends [] st = []
words_for n i ends (d ∷ ds) st =
    word_for n i d.0 d.1 st ∷ words_for n i ends ds (after_dest n i ends d.0 d.1 st)

-- whether every destination was found, x first, then y on the state after x; a non-Gen destination never is. This counts at
-- a load, of either kind (document 02, request 1)
unfoldable pub found_all : ℕ → ℕ → List ℕ → List (ℕ × Option Loc) → Coloring → Bool
found_all n i ends [] st = true
found_all n i ends (d ∷ ds) st =
    is_gen d.0 && is_found (choice_for n i d.1 st) && found_all n i ends ds (after_dest n i ends d.0 d.1 st)

-- a choice that is not a found one has a colour in its pool: one of the n colours that is free
abbrev pub HasPool : ℕ → ℕ → Option Loc → Coloring → Type 0
HasPool n i held st =
    (is_found (choice_for n i held st) ≡ true) ⊎ ((c : ℕ) × (c < n) × (is_free i st.allocs c ≡ true))

-- and so has each choice that the destinations make
abbrev pub HavePools : ℕ → ℕ → List ℕ → List (ℕ × Option Loc) → Coloring → Type 0
HavePools n i ends [] st = Unit {0}
HavePools n i ends (d ∷ ds) st =
    (is_gen d.0 ≡ true → HasPool n i d.1 st) × HavePools n i ends ds (after_dest n i ends d.0 d.1 st)

-- ---- one record

-- the colour of the static that a source holds
abbrev pub colour_of : Option ℕ → List ℕ → ℕ
colour_of (Some s) colours = get_or colours s 0
colour_of None colours = 0

abbrev pub source_word : List (Option ℕ) → List ℕ → ℕ → ℕ
source_word regs colours w = cond (is_gen w) (colour_of (get_or regs w None) colours) w

-- the location that a coloured word's colour holds
abbrev pub held_by : List Alloc → ℕ → Option Loc
held_by allocs c = cond (is_gen c) (colour_at allocs c).loc None

-- what x and y are wanted with, by the record's action: Load with the location l, LoadComplex with l and its partner,
-- Mov with what its source's colour holds
abbrev pub want_x : Action → Loc → Option Loc → Option Loc
want_x action.Mov l held = held
want_x action.Load l held = Some l
want_x action.Save l held = None
want_x action.LoadComplex l held = Some l
want_x action.SaveComplex l held = None
want_x action.LoadArgs l held = None
want_x action.Clear l held = None
want_x action.Other l held = None

abbrev pub want_y : Action → Loc → Option Loc
want_y action.Mov l = None
want_y action.Load l = None
want_y action.Save l = None
want_y action.LoadComplex l = Some (partner l)
want_y action.SaveComplex l = None
want_y action.LoadArgs l = None
want_y action.Clear l = None
want_y action.Other l = None

abbrev pub wanted : List ℕ → Option Loc → Option Loc → List (ℕ × Option Loc)
wanted [] hx hy = []
wanted (x ∷ ws) hx hy = (x, hx) ∷ map (λ y. (y, hy)) ws

-- Save clears its location from every colour, then gives it to the source's colour if the source is Gen
abbrev pub without : Loc → Alloc → Alloc
without l a = alloc a.life (cond (holds a.loc l) None a.loc)

abbrev pub clear : Loc → List Alloc → List Alloc
clear l allocs = map (without l) allocs

abbrev pub give : ℕ → Loc → List Alloc → List Alloc
give w l allocs = cond (is_gen w) (set allocs w (alloc (colour_at allocs w).life (Some l))) allocs

-- what the action does to the colours after the destinations; x and y are the coloured sources
abbrev pub update_allocs : Action → Loc → ℕ → ℕ → List Alloc → List Alloc
update_allocs action.Mov l x y allocs = allocs
update_allocs action.Load l x y allocs = allocs
update_allocs action.Save l x y allocs = give x l (clear l allocs)
update_allocs action.LoadComplex l x y allocs = allocs
update_allocs action.SaveComplex l x y allocs = give y (partner l) (give x l (clear (partner l) (clear l allocs)))
update_allocs action.LoadArgs l x y allocs = allocs
update_allocs action.Clear l x y allocs = blank
update_allocs action.Other l x y allocs = allocs

-- the locations that a record reads: a load that is not put out joins nothing, and one that is put out joins all its halves
abbrev pub reads : Action → Bool → Loc → List Loc → Bool → List Loc
reads action.Mov found l pairs located = []
reads action.Load found l pairs located = cond found [] (l ∷ [])
reads action.Save found l pairs located = []
reads action.LoadComplex found l pairs located = cond found [] (l ∷ partner l ∷ [])
reads action.SaveComplex found l pairs located = []
reads action.LoadArgs found l pairs located = pairs
reads action.Clear found l pairs located = []
reads action.Other found l pairs located = cond located (l ∷ []) []

-- the read set has its members in joining order, without repeats
unfoldable pub is_member : Loc → List Loc → Bool
is_member l [] = false
is_member l (m ∷ ms) = same_loc m l || is_member l ms

abbrev pub join : List Loc → Loc → List Loc
join members l = cond (is_member l members) members (members ++ l ∷ [])

unfoldable pub joined : List Loc → List Loc → List Loc
joined members [] = members
joined members (l ∷ ls) = joined (join members l) ls

-- what a list is coloured with: the number of colours, the statics' ends, the table and the list
pub record Setup : Type 0 where
  pub count : ℕ
  pub ends : List ℕ
  pub table : List ℕ
  pub list : List ℕ

-- record i on the state before it: its sources in colours, its destinations with what they are wanted with, whether it
-- is a load that was found, what it is rewritten to, and the state after it
abbrev pub sources_at : Setup → ℕ → Coloring → List ℕ
sources_at u i st = map (source_word (regs_to u.list i) st.colours) (sources (record_at u.list i))

abbrev pub dests_at : Setup → ℕ → Coloring → List (ℕ × Option Loc)
dests_at u i st =
    let rec = record_at u.list i in
    wanted (dests rec) (want_x (shape_for rec).action (loc_of rec) (held_by st.allocs (get_or (sources_at u i st) 0 0)))
    (want_y (shape_for rec).action (loc_of rec))

abbrev pub found_at : Setup → ℕ → Coloring → Bool
found_at u i st = found_all u.count i u.ends (dests_at u i st) st

unfoldable pub colored : Setup → ℕ → Coloring → List ℕ
colored u i st =
    let rec = record_at u.list i in
    let shape = shape_for rec in
    take shape.regs rec
    ++ (words_for u.count i u.ends (dests_at u i st) st
    ++ (sources_at u i st ++ drop (shape.regs + (shape.dsts + shape.srcs)) rec))

unfoldable pub color_step : Setup → ℕ → Coloring → Coloring
color_step u i st =
    let rec = record_at u.list i in
    let shape = shape_for rec in
    let srcs = sources_at u i st in
    let given = after_dests u.count i u.ends (dests_at u i st) st in
    let pairs = pairs_from u.table (word_at rec 1) (word_at rec 2) in
    record {
      allocs = update_allocs shape.action (loc_of rec) (get_or srcs 0 0) (get_or srcs 1 0) given.allocs;
      colours = given.colours;
      members =
          joined given.members (reads shape.action (found_at u i st) (loc_of rec) pairs (not (eqb shape.loc 0)));
    }

-- before record i
unfoldable pub color_to : Setup → ℕ → Coloring
color_to u zero = record { allocs = blank; colours = []; members = [] }
color_to u (suc i) = color_step u i (color_to u i)

abbrev pub setup : Settings → List ℕ → List ℕ → Setup
setup s list table = record { count = s.count_regs; ends = ends_of list; table = table; list = list }

-- no choice finds its pool empty: at each record of a list, each choice that the destinations make is found or has a colour in its
-- pool
abbrev pub PoolsNeverEmpty : Settings → (list table : List ℕ) → Type 0
PoolsNeverEmpty s list table =
    let u = setup s list table in
    (i : ℕ) → i < records list → HavePools s.count_regs i u.ends (dests_at u i (color_to u i)) (color_to u i)

-- ---- how full the registers got (document 02, request 7)

-- how many of the n colours are needed past instruction i, that is have a life above it
abbrev pub needed : ℕ → ℕ → List Alloc → ℕ
needed n i allocs = count_by (λ (a : Alloc). ltb i a.life) (take n allocs)

-- the most that a choice of the destinations leaves needed: each choice counts once it is made, found or not
unfoldable pub fullest_for : ℕ → ℕ → List ℕ → List (ℕ × Option Loc) → Coloring → ℕ
fullest_for n i ends [] st = 0
fullest_for n i ends (d ∷ ds) st =
    let after = after_dest n i ends d.0 d.1 st in
    max (cond (is_gen d.0) (needed n i after.allocs) 0) (fullest_for n i ends ds after)

-- and any choice at record i, and before it
abbrev pub fullest_at : Setup → ℕ → ℕ
fullest_at u i = fullest_for u.count i u.ends (dests_at u i (color_to u i)) (color_to u i)

unfoldable pub fullest_to : Setup → ℕ → ℕ
fullest_to u zero = 0
fullest_to u (suc i) = max (fullest_to u i) (fullest_at u i)

-- no record of a list has a Gen source
unfoldable pub no_gen_source : List ℕ → Bool
no_gen_source list = all_below (records list) (λ i. list_all (λ w. not (is_gen w)) (sources (record_at list i)))
