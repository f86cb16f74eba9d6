-- `pool_never_empty`: for every list that passes, of any kinds, each choice that section 3 makes, but for a found one, has
-- a colour in its pool.
-- By induction on the records, with `walk` for the destinations of each; a reset only lowers lives.
use Rattle.passes.specs.declared.symbol.Loc.{Loc}
use Rattle.std.specs.Prelude.{Option, Some, None}
use Prim.Native.Nat.{ℕ, zero, suc, ◌+◌, ◌-◌, ◌≤◌, ◌<◌}
use mathlib.Core.Bool.{Bool, true, false, cond, ◌||◌}
use mathlib.Core.List.{List, [], ◌∷◌, map}
use mathlib.Core.Logic.{⊎_elim}
use mathlib.Core.Path.{◌≡◌, refl, sym, ap, ◌∙◌}
use native.Mathlib.Omega.{arith}
use lib.Dec.{eqb}
use lib.ListN.{length, get_or}
use borrow.Author.Tests.{eqb-true}
use Rattle.mir.specs.declared.config.Settings.{Settings}
use Rattle.mir.specs.declared.shape.Action.{Action}
use Rattle.mir.specs.declared.shape.Action.TheVariants as action
use Rattle.std.specs.List.{list_all}
use Rattle.mir.specs.Questions.{named, is_static, sources_named, gen_fits}
use Rattle.mir.specs.Records.{records, record_at, word_at, is_gen, max_regs}
use Rattle.mir.specs.Renaming.{fresh, gens, produced, renamed, statics_to, regs_to}
use Rattle.mir.specs.Shapes.{call, label, shape_of, shape_for, dests, sources}
use Rattle.mir.proofs.Clash.{clash}
use Rattle.mir.proofs.Passing.{ListPasses, list_passes}
use Rattle.mir.proofs.Renaming.{gens_fit_both, regs_length, not_fresh}
use Rattle.passes.specs.declared.alloc.Alloc.{Alloc}
use Rattle.passes.specs.Color.{Setup, setup, Coloring, colour_at, wanted, source_word, update_allocs, loc_of, PoolsNeverEmpty, after_dests}
use Rattle.passes.specs.Color.{sources_at, dests_at, color_step, color_to}
use Rattle.passes.specs.Contract.{colours_of}
use Rattle.passes.specs.Create.{ends_of}
use Rattle.passes.specs.Machine.{Passing}
use Rattle.theorems.proofs.Actions.{same_action}
use Rattle.theorems.proofs.Create.{In, all_in, names_to, gone_end, ends_count}
use Rattle.theorems.proofs.Pool.{Owner, Owned, Below, words, Before, After, walk}
use Rattle.theorems.proofs.Locations.{update_life, update_length, blank_life}

-- the words of the destinations, with or without what they are wanted with
same_words : (ws : List ℕ) (h : Option Loc) → words (map (λ (y : ℕ). (y, h)) ws) ≡ ws
unfolding words
same_words [] h = refl
same_words (w ∷ ws) h = ap (λ (l : List ℕ). w ∷ l) (same_words ws h)

pub wanted_words : (ws : List ℕ) (hx hy : Option Loc) → words (wanted ws hx hy) ≡ ws
unfolding words
wanted_words [] hx hy = refl
wanted_words (x ∷ ws) hx hy = ap (λ (l : List ℕ). x ∷ l) (same_words ws hy)

-- only records whose action is Clear forget
abbrev forgets : List ℕ → Bool
forgets rec = eqb (word_at rec 0) call || eqb (word_at rec 0) label

forgets_clear : (rec : List ℕ) → forgets rec ≡ true → (shape_for rec).action ≡ action.Clear
unfolding shape_of
forgets_clear rec h = go (eqb (word_at rec 0) call) refl (eqb (word_at rec 0) label) refl h
  where
    go : (a : Bool) → eqb (word_at rec 0) call ≡ a → (b : Bool) → eqb (word_at rec 0) label ≡ b → (a || b) ≡ true → (shape_for rec).action ≡ action.Clear
    go true e b f q = rw (eqb-true (word_at rec 0) call e)
    go false e true f q = rw (eqb-true (word_at rec 0) label f)
    go false e false f q = cc

-- the registers once the destinations of record i are written; and after the record, by whether it forgets
abbrev pub written : List ℕ → ℕ → List (Option ℕ)
written list i = produced (dests (record_at list i)) (statics_to list i) (regs_to list i)

module _ (list : List ℕ) (i : ℕ) where
  pub regs_next : ((shape_for (record_at list i)).action ≡ action.Clear → ⊥) → regs_to list (suc i) ≡ written list i
  unfolding regs_to renamed
  regs_next h = go (forgets (record_at list i)) refl
    where
      go : (b : Bool) → forgets (record_at list i) ≡ b → cond b fresh (written list i) ≡ written list i
      go true e = absurd (h (forgets_clear (record_at list i) e))
      go false e = refl

  -- who holds a static after the record held it once the destinations were written
  regs_after : (r s : ℕ) → get_or (regs_to list (suc i)) r None ≡ Some s → get_or (written list i) r None ≡ Some s
  unfolding regs_to renamed
  regs_after r s e = go (forgets (record_at list i)) e
    where
      go : (b : Bool) → get_or (cond b fresh (written list i)) r None ≡ Some s → get_or (written list i) r None ≡ Some s
      go true f = absurd (not_fresh r s f)
      go false f = f

-- what is known before record i; a colour that is needed beyond the record before it has an owner
pub record Ready (u : Setup) (i : ℕ) : Type 0 where
  pub next : length (color_to u i).colours ≡ statics_to u.list i
  pub owned : Owned u.count (i - 1) u.ends (regs_to u.list i) (color_to u i).colours (color_to u i).allocs
  pub enough : length (color_to u i).allocs ≡ max_regs
  pub below : Below u.count (color_to u i).colours

module _ (s : Settings) (list table : List ℕ) (i : ℕ) where
  abbrev st : Coloring
  st = color_to (setup s list table) i

  -- what is known before the choices of record i, and after them
  abbrev pub BeforeAt : Type 0
  BeforeAt = Before s.count_regs i (ends_of list) (dests_at (setup s list table) i st) (statics_to list i) (regs_to list i) st

  abbrev pub AfterAt : Type 0
  AfterAt = After s.count_regs i (ends_of list) (dests_at (setup s list table) i st) (statics_to list i) (regs_to list i) st

module _ (s : Settings) (list table : List ℕ) (passes : ListPasses s list table) (i : ℕ) (l : i < records list) where
  -- the record's destinations fit, and a static that they leave to nobody has its end behind it
  dests_fit : list_all (gen_fits s.count_regs) (dests (record_at list i)) ≡ true
  dests_fit = (gens_fit_both s.count_regs (record_at list i) (passes.each i l).shape.gens).0

  left_behind : (t : ℕ) → t < statics_to list i + gens (dests (record_at list i))
      → ((r : ℕ) → get_or (written list i) r None ≡ Some t → ⊥) → get_or (ends_of list) t 0 ≤ i
  unfolding statics_to
  left_behind t h g = gone_end list i t l h (λ r e. g r (regs_after list i r t e))

  before : Ready (setup s list table) i → BeforeAt s list table i
  unfolding Owned
  before ready =
      record {
        next = ready.next;
        names = names_to list i;
        owned = λ c l p. ready.owned c l (omega arith);
        fit = rw wanted_words dests_fit;
        gone = rw wanted_words left_behind;
        wide = rw regs_length passes.few;
        enough = rw ready.enough passes.few;
        below = ready.below;
      }

  done : Ready (setup s list table) i → AfterAt s list table i
  done ready = walk _ i (ends_of list) _ (statics_to list i) (regs_to list i) _ (before ready)

  -- the colours after the action: a reset leaves none that is needed, and any other action leaves the lives
  module _ (ready : Ready (setup s list table) i) where
    act : Action
    act = (shape_for (record_at list i)).action

    given : Coloring
    given = after_dests s.count_regs i (ends_of list) (dests_at (setup s list table) i (st s list table i)) (st s list table i)

    updated : List Alloc
    unfolding given act
    updated =
        let srcs = sources_at (setup s list table) i (st s list table i) in
        update_allocs act (loc_of (record_at list i)) (get_or srcs 0 0) (get_or srcs 1 0) given.allocs

    reset : act ≡ action.Clear → (c : ℕ) → (colour_at updated c).life ≡ 0
    unfolding updated
    reset e c = rw e (blank_life c)

    goes_on : (act ≡ action.Clear → ⊥) → (c : ℕ) → (colour_at updated c).life ≡ (colour_at given.allocs c).life
    unfolding updated
    goes_on h c = update_life _ _ _ given.allocs act h c

    owner : (act ≡ action.Clear → ⊥) → (c : ℕ) → c < s.count_regs → i < (colour_at given.allocs c).life
        → Owner s.count_regs (ends_of list) (regs_to list (suc i)) given.colours c (colour_at given.allocs c).life
    unfolding given act Owned
    owner h c l p =
        let o = (done ready).owned c l p in
        rw (regs_next list i h) (rw (wanted_words (dests (record_at list i))) at o)

    ready_next : Ready (setup s list table) (suc i)
    unfolding color_to color_step Owned statics_to act given updated
    ready_next =
        record {
          next = (done ready).next ∙ ap (λ (ws : List ℕ). statics_to list i + gens ws) (wanted_words (dests (record_at list i)) _ _);
          owned = λ c l p. ⊎_elim (λ (e : act ≡ action.Clear). absurd (omega (arith, reset e c)))
              (λ (h : act ≡ action.Clear → ⊥).
              let q = goes_on h c in
              rw q (owner h c l (omega (arith, q)))) (same_action act action.Clear);
          enough = update_length _ _ _ given.allocs act ((done ready).enough ∙ ready.enough);
          below = (done ready).below;
        }

module _ (s : Settings) (list table : List ℕ) (passes : ListPasses s list table) where
  ready_first : Ready (setup s list table) zero
  unfolding color_to Owned Below statics_to
  ready_first = record { next = refl; owned = λ c l p. absurd (omega (arith, blank_life c)); enough = refl; below = λ t l. absurd (omega arith) }

  pub ready_to : (i : ℕ) → i ≤ records list → Ready (setup s list table) i
  ready_to zero l = ready_first
  ready_to (suc i) l = ready_next s list table passes i (omega arith) (ready_to i (omega arith))

  -- what is known before the choices of record i, and what they leave known
  pub before_of : (i : ℕ) → i < records list → BeforeAt s list table i
  before_of i l = before s list table passes i l (ready_to i (omega arith))

  pub choices_of : (i : ℕ) → i < records list → AfterAt s list table i
  choices_of i l = done s list table passes i l (ready_to i (omega arith))

pub pool_never_empty : (s : Settings) (list table : List ℕ) → Passing s list table → PoolsNeverEmpty s list table
unfolding Passing
pool_never_empty s list table h i l = (choices_of s list table (list_passes true s list table h) i l).pools

-- an end for each colour
pub ends_same : (s : Settings) (list table : List ℕ) → Passing s list table → length (ends_of list) ≡ length (colours_of s list table)
unfolding Passing colours_of
ends_same s list table h =
    let passes = list_passes true s list table h in
    ends_count list ∙ sym (ready_to s list table passes (records list) (omega arith)).next

-- ---- sources

static_of : (c : Option ℕ) → is_static c ≡ true → (t : ℕ) × (c ≡ Some t)
static_of (Some t) e = (t, refl)
static_of None e = clash (cc)

module _ (s : Settings) (list table : List ℕ) (passes : ListPasses s list table) (i : ℕ) (inside : i < records list) (w : ℕ)
    (source : In w (sources (record_at list i))) (gen : is_gen w ≡ true) where
  -- a Gen source holds a static
  pub source_static : (t : ℕ) × (get_or (regs_to list i) w None ≡ Some t)
  unfolding sources_named
  source_static =
      let has = all_in (named (regs_to list i)) (sources (record_at list i)) w (passes.each i inside).sources source in
      static_of (get_or (regs_to list i) w None) (rw gen at has)

  -- and its colour is one of the n
  pub source_below : source_word (regs_to list i) (color_to (setup s list table) i).colours w < s.count_regs
  unfolding Below
  source_below =
      let ready = ready_to s list table passes i (omega arith) in
      let t = source_static in
      rw (gen, t.1) (ready.below t.0 (rw ready.next ((names_to list i).below w t.0 t.1)))
