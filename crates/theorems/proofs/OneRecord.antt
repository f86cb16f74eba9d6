-- One record of a list that passes: two runs that agree before it agree after it.
-- Here are the parts that the kinds share: what a record reads is the same in both runs; a register that it writes has the
-- new value in both; and a record that writes none leaves every register's static.
use Rattle.std.specs.Prelude.{Option, Some, None}
use Prim.Native.Nat.{ℕ, suc, ◌≤◌, ◌<◌}
use mathlib.Core.Bool.{Bool, true, false, cond}
use mathlib.Core.List.{List, []}
use mathlib.Core.Logic.{◌⊎◌, inr}
use mathlib.Core.Path.{◌≡◌, refl, ap, ◌∙◌}
use native.Mathlib.Omega.{arith}
use lib.ListN.{get_or}
use borrow.Author.Tests.{ltb-false}
use Rattle.mir.specs.declared.config.Settings.{Settings}
use Rattle.mir.specs.declared.shape.Action.TheVariants as action
use Rattle.mir.specs.Records.{records, record_at, is_gen, fixed_mark}
use Rattle.mir.specs.Renaming.{produced, statics_to, regs_to}
use Rattle.mir.specs.Shapes.{shape_for, dests, sources}
use Rattle.mir.proofs.Clash.{clash}
use Rattle.mir.proofs.Passing.{ListPasses}
use Rattle.mir.proofs.Renaming.{regs_length}
use Rattle.passes.specs.declared.alloc.Alloc.{Alloc}
use Rattle.passes.specs.declared.symbol.Loc.{Loc}
use Rattle.passes.specs.Color.{Setup, setup, Coloring, loc, loc_of, blank, colour_of, source_word}
use Rattle.passes.specs.Color.{update_allocs, is_member, words_for, found_at, after_dests, sources_at, dests_at, color_step, color_to}
use Rattle.passes.specs.Contract.{is_beyond, read_set}
use Rattle.passes.specs.Create.{ends_of}
use Rattle.passes.specs.Machine.{State}
use Rattle.theorems.proofs.Assign.{Live, SimIn, static_in, number_in}
use Rattle.theorems.proofs.Create.{In, read_end}
use Rattle.theorems.proofs.Locations.{no_location}
use Rattle.theorems.proofs.NeverEmpty.{regs_next, before_of, wanted_words, source_static, source_below}
use Rattle.theorems.proofs.Pool.{words}
use Rattle.theorems.proofs.ReadSet.{InLocs, reads_at, is_read}
use Rattle.theorems.proofs.Writes.{Wrote, Valued, write_all, still_over, write_dests}

-- ---- what agrees

module _ (s : Settings) (list table : List ℕ) where
  -- somebody looks at a cell: after the run, or a record of the reduced list
  abbrev pub Seen : ℕ → ℕ → Type 0
  Seen p x = (is_beyond (fixed_mark s) (loc p x) ≡ false) ⊎ (is_member (loc p x) (read_set (setup s list table)) ≡ true)

  -- named registers, constants, and the cells that somebody looks at are the same
  pub record Same {Value : Type 0} (A B : State Value) : Type 0 where
    pub named : (r : ℕ) → 256 ≤ r → A.reg r ≡ B.reg r
    pub const : (k : ℕ) → A.const k ≡ B.const k
    pub cells : (q x : ℕ) → Seen q x → A.cell q x ≡ B.cell q x

  -- before record i neither run is over, and they agree
  pub record Running {Value : Type 0} (i : ℕ) (A B : State Value) : Type 0 where
    pub a_runs : A.over ≡ false
    pub b_runs : B.over ≡ false
    pub sim : SimIn s.count_regs (ends_of list) Seen i (regs_to list i) (color_to (setup s list table) i).colours (color_to (setup s list table) i).allocs A B
    pub live : Live s.count_regs i (ends_of list) (regs_to list i) (color_to (setup s list table) i).colours (color_to (setup s list table) i).allocs

  pub running_same : {Value : Type 0} {i : ℕ} {A B : State Value} → Running i A B → Same A B
  running_same g = record { named = g.sim.named; const = g.sim.const; cells = g.sim.cells }

  -- where no colour holds a location, and no register a static that is still to be read, that is enough
  pub from_same : {Value : Type 0} {i : ℕ} {A B : State Value} → A.over ≡ false → B.over ≡ false → Same A B → (color_to (setup s list table) i).allocs ≡ blank
      → ((r t : ℕ) → static_in (regs_to list i) r ≡ Some t → i ≤ number_in (ends_of list) t → ⊥) → Running i A B
  from_same a b same bare unread =
      record {
        a_runs = a;
        b_runs = b;
        sim =
            record {
              named = same.named;
              const = same.const;
              cells = same.cells;
              regs = λ r t e l. absurd (unread r t e l);
              held = λ c l k e. absurd (no_location c l (rw bare at e));
            };
        live = record { of = λ r t e l. absurd (unread r t e l) };
      }

-- record i of a list that passes, and what the definitions have there
pub record Place : Type 0 where
  pub s : Settings
  pub list : List ℕ
  pub table : List ℕ
  pub passes : ListPasses s list table
  pub i : ℕ
  pub inside : i < records list

module _ (p : Place) where
  abbrev pub count : ℕ
  count = p.s.count_regs

  abbrev pub made : Setup
  made = setup p.s p.list p.table

  abbrev pub state : Coloring
  state = color_to made p.i

  abbrev pub next : Coloring
  next = color_to made (suc p.i)

  abbrev pub rec : List ℕ
  rec = record_at p.list p.i

  abbrev pub regs : List (Option ℕ)
  regs = regs_to p.list p.i

  -- a source in colours, the destinations with what they are wanted with, and the destinations in colours
  abbrev pub src : ℕ → ℕ
  src w = source_word regs state.colours w

  abbrev pub wants : List (ℕ × Option Loc)
  wants = dests_at made p.i state

  abbrev pub dsts : List ℕ
  dsts = words_for count p.i (ends_of p.list) wants state

  abbrev pub Looked : ℕ → ℕ → Type 0
  Looked = Seen p.s p.list p.table

  abbrev pub Before : {Value : Type 0} → State Value → State Value → Type 0
  Before = Running p.s p.list p.table p.i

  abbrev pub After : {Value : Type 0} → State Value → State Value → Type 0
  After = Running p.s p.list p.table (suc p.i)

  -- after the record, by what it makes of the registers' statics, the colours given and the colours' state
  pub after : {Value : Type 0} {rs : List (Option ℕ)} {cs : List ℕ} {al : List Alloc} {A B : State Value} → regs_to p.list (suc p.i) ≡ rs → next.colours ≡ cs → next.allocs ≡ al
      → A.over ≡ false → B.over ≡ false → SimIn count (ends_of p.list) Looked (suc p.i) rs cs al A B → Live count (suc p.i) (ends_of p.list) rs cs al → After A B
  after er ec ea a b sim live = record { a_runs = a; b_runs = b; sim = rw (er, ec, ea) sim; live = rw (er, ec, ea) live }

-- ---- what a record reads

module _ (p : Place) {Value : Type 0} {A B : State Value} (g : Before p A B) where
  -- a source has the same value in both runs
  pub source_same : (w : ℕ) → In w (sources (rec p)) → A.reg w ≡ B.reg (src p w)
  source_same w m = go (is_gen w) refl
    where
      go : (b : Bool) → is_gen w ≡ b → A.reg w ≡ B.reg (cond b (colour_of (get_or (regs p) w None) (state p).colours) w)
      go true e =
          let t = source_static p.s p.list p.table p.passes p.i p.inside w m e in
          rw t.1 (g.sim.regs w t.0 t.1 (read_end p.list p.i w t.0 p.inside m e t.1))
      go false e = g.sim.named w (ltb-false w 256 e)

  -- a coloured source that is Gen is one of the n colours
  pub source_small : (w : ℕ) → In w (sources (rec p)) → is_gen (src p w) ≡ true → src p w < count p
  source_small w m q = go (is_gen w) refl
    where
      go : (b : Bool) → is_gen w ≡ b → src p w < count p
      go true e = source_below p.s p.list p.table p.passes p.i p.inside w m e
      go false e =
          let f : is_gen w ≡ true = rw e at q in
          clash (cc)

  -- a cell that the record reads is the same in both runs
  pub cell_same : (l : Loc) → InLocs l (reads_at (made p) p.i) → A.cell l.space l.index ≡ B.cell l.space l.index
  cell_same l r = g.sim.cells l.space l.index (inr (is_read (made p) p.i l p.inside r))

-- ---- a record that writes registers, and does nothing else to the colours

module _ (p : Place) (stays : (l : Loc) (x y : ℕ) (allocs : List Alloc) → update_allocs (shape_for (rec p)).action l x y allocs ≡ allocs) where
  -- a reset would not leave the colours
  no_reset : (shape_for (rec p)).action ≡ action.Clear → ⊥
  no_reset e =
      let f : blank ≡ [] = rw e at (stays (loc 0 0) 0 0 []) in
      clash (cc)

  allocs_next : (next p).allocs ≡ (after_dests (count p) p.i (ends_of p.list) (wants p) (state p)).allocs
  unfolding color_to color_step
  allocs_next = stays _ _ _ _

  colours_next : (next p).colours ≡ (after_dests (count p) p.i (ends_of p.list) (wants p) (state p)).colours
  unfolding color_to color_step
  colours_next = refl

  module _ {Value : Type 0} {A B : State Value} (g : Before p A B) (vs : List Value) (valued : Valued A.cell (wants p) vs) where
    few : count p ≤ 256
    few = omega (arith, p.passes.few)

    wrote : Wrote (count p) p.i (ends_of p.list) (Looked p) few (wants p) vs (statics_to p.list p.i) (regs p) (state p) A B
    wrote =
        write_dests (count p) p.i (ends_of p.list) (Looked p) few (wants p) vs (statics_to p.list p.i) (regs p) (state p) p.i A B
        (before_of p.s p.list p.table p.passes p.i p.inside)
        (record { early = omega arith; short = rw regs_length (omega arith); live = g.live; sim = g.sim }) valued

    pub dests_after : After p (write_all (dests (rec p)) vs A) (write_all (dsts p) vs B)
    dests_after =
        let e : words (wants p) ≡ dests (rec p) = wanted_words (dests (rec p)) _ _ in
        after p (regs_next p.list p.i no_reset) colours_next allocs_next
        (still_over (dests (rec p)) vs A ∙ g.a_runs) (still_over (dsts p) vs B ∙ g.b_runs) (rw e at wrote.sim) (rw e at wrote.live)

    -- a load that was found leaves the reduced run as it is
    pub dests_same : found_at (made p) p.i (state p) ≡ true → write_all (dsts p) vs B ≡ B
    dests_same = wrote.same

-- ---- a record that writes none

module _ (p : Place) (none : dests (rec p) ≡ []) where
  nothing_given : after_dests (count p) p.i (ends_of p.list) (dests_at (made p) p.i (state p)) (state p) ≡ state p
  unfolding after_dests
  nothing_given = rw none

  same_colours : (next p).colours ≡ (state p).colours
  unfolding color_to color_step
  same_colours = ap (λ (k : Coloring). k.colours) nothing_given

  abbrev source : ℕ → ℕ
  source k = get_or (sources_at (made p) p.i (state p)) k 0

  updated_allocs : (next p).allocs ≡ update_allocs (shape_for (rec p)).action (loc_of (rec p)) (source 0) (source 1) (state p).allocs
  unfolding color_to color_step
  updated_allocs = ap (λ (k : Coloring). update_allocs (shape_for (rec p)).action (loc_of (rec p)) (source 0) (source 1) k.allocs) nothing_given

  -- and does not reset the colours
  module _ (no_reset : (shape_for (rec p)).action ≡ action.Clear → ⊥) where
    same_regs : regs_to p.list (suc p.i) ≡ regs p
    unfolding produced
    same_regs = regs_next p.list p.i no_reset ∙ ap (λ (ws : List ℕ). produced ws (statics_to p.list p.i) (regs p)) none

    -- as is the colours' state after its action
    pub none_after : {Value : Type 0} {al : List Alloc} {A B : State Value} → update_allocs (shape_for (rec p)).action (loc_of (rec p)) (source 0) (source 1) (state p).allocs ≡ al
        → A.over ≡ false → B.over ≡ false → SimIn (count p) (ends_of p.list) (Looked p) (suc p.i) (regs p) (state p).colours al A B
        → Live (count p) (suc p.i) (ends_of p.list) (regs p) (state p).colours al → After p A B
    none_after e = after p same_regs same_colours (updated_allocs ∙ e)

  -- and resets them: no colour holds a location, and no register a static that is still to be read
  pub reset_after : {Value : Type 0} {A B : State Value} → (shape_for (rec p)).action ≡ action.Clear → A.over ≡ false → B.over ≡ false → Same p.s p.list p.table A B
      → ((r t : ℕ) → static_in (regs_to p.list (suc p.i)) r ≡ Some t → suc p.i ≤ number_in (ends_of p.list) t → ⊥) → After p A B
  reset_after clears a b same unread = from_same p.s p.list p.table a b same (updated_allocs ∙ rw clears) unread
