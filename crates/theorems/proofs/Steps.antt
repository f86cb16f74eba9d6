-- Each straight kind takes two runs that agree before its record to two that agree after it.
-- Nine kinds compute values, and Mov and both loads copy one: they write registers, which is one law (`writes`). The saves
-- write cells; Nop does nothing, and End stops both runs.
use Rattle.std.specs.Prelude.{Option, Some, None}
use Prim.Native.Nat.{ℕ, zero, suc, ◌+◌, ◌≤◌}
use mathlib.Core.Bool.{Bool, true, false, cond, ◌&&◌, ◌||◌, not, and-false}
use mathlib.Core.List.{List, [], ◌∷◌}
use mathlib.Core.Logic.{◌⊎◌, inl, inr, ⊎_elim}
use mathlib.Core.Path.{◌≡◌, refl, sym, ap, ◌∙◌}
use native.Mathlib.Omega.{arith}
use lib.Dec.{eqb, leb}
use lib.ListN.{length}
use borrow.Author.Tests.{eqb-true, ne_eqb, leb-true, le-leb, lt-leb}
use Rattle.mir.specs.declared.config.Settings.{Settings}
use Rattle.mir.specs.declared.shape.Action.TheVariants as action
use Rattle.mir.specs.Records.{is_gen, fixed_mark}
use Rattle.mir.specs.Shapes.{row, shape_of, shape_for, dests, sources}
use Rattle.mir.proofs.Clash.{clash}
use Rattle.mir.proofs.Renaming.{and_both}
use Rattle.passes.specs.declared.alloc.Alloc.{Alloc}
use Rattle.passes.specs.declared.alloc.Outcome.{Outcome}
use Rattle.passes.specs.declared.alloc.Outcome.TheVariants as outcome
use Rattle.passes.specs.declared.symbol.Loc.{Loc}
use Rattle.passes.specs.Color.{loc, held_by, clear, give, update_allocs, is_member, word_for, words_for, found_at, colored}
use Rattle.passes.specs.Contract.{outcome_of, out_at, outcome_at, is_kept, read_set, is_beyond}
use Rattle.passes.specs.Create.{ends_of}
use Rattle.passes.specs.Machine.{Meaning, State, store, store_both, finish, effect, turn, is_scalar, is_straight, EndsEqual}
use Rattle.theorems.proofs.OneRecord.{Same, Running, running_same, Place, Before, count, made, state, rec, regs, src, wants, dsts, Looked}
use Rattle.theorems.proofs.OneRecord.{source_same, source_small, cell_same, dests_after, dests_same, none_after}
use Rattle.theorems.proofs.Assign.{Live, SimIn, live_later}
use Rattle.theorems.proofs.Create.{In}
use Rattle.theorems.proofs.Ends.{turn_runs}
use Rattle.theorems.proofs.Locations.{clear_give}
use Rattle.theorems.proofs.ReadSet.{InLocs, reads_at}
use Rattle.theorems.proofs.Saves.{saved_to, live_save, sim_store, sim_unseen}
use Rattle.theorems.proofs.Writes.{Valued, write_all, any_values, write_self}

-- both runs are over, and ended equal
pub record Stopped {Value : Type 0} (s : Settings) (A B : State Value) : Type 0 where
  pub a_over : A.over ≡ true
  pub b_over : B.over ≡ true
  pub equal : EndsEqual s A B

module _ (s : Settings) (list table : List ℕ) where
  abbrev pub Agree : {Value : Type 0} → ℕ → State Value → State Value → Type 0
  Agree i A B = Running s list table i A B ⊎ Stopped s A B

  -- what agrees is what the claim asks
  pub ends_equal : {Value : Type 0} {A B : State Value} → Same s list table A B → EndsEqual s A B
  ends_equal g =
      record {
        named = λ r h k. g.named r h;
        mem = λ x. g.cells 1 x (inl refl);
        param = λ x. g.cells 2 x (inl refl);
        stack = λ x h. g.cells 0 x (inl (rw (lt-leb (fixed_mark s) x h)));
      }

neither : (a b : Bool) → not (a || b) ≡ true → (not a ≡ true) × (not b ≡ true)
neither true b h = clash (cc)
neither false b h = (refl, h)

-- a record with an outcome of its own in case b
kept_unless : (b : Bool) (o : Outcome) → is_kept o ≡ false → is_kept (cond b o outcome.Kept) ≡ not b
kept_unless true o h = h
kept_unless false o h = refl

-- ---- what holds at each scalar kind holds of every kind that is one

pub or_cases : (a b : Bool) → (a || b) ≡ true → (a ≡ true) ⊎ (b ≡ true)
or_cases true b h = inl refl
or_cases false b h = inr h

module _ (P : ℕ → Type 0) where
  small_kinds : P 0 → P 1 → P 2 → P 3 → P 4 → P 5 → P 6 → (k : ℕ) → k ≤ 6 → P k
  small_kinds p0 p1 p2 p3 p4 p5 p6 zero h = p0
  small_kinds p0 p1 p2 p3 p4 p5 p6 (suc zero) h = p1
  small_kinds p0 p1 p2 p3 p4 p5 p6 (suc (suc zero)) h = p2
  small_kinds p0 p1 p2 p3 p4 p5 p6 (suc (suc (suc zero))) h = p3
  small_kinds p0 p1 p2 p3 p4 p5 p6 (suc (suc (suc (suc zero)))) h = p4
  small_kinds p0 p1 p2 p3 p4 p5 p6 (suc (suc (suc (suc (suc zero))))) h = p5
  small_kinds p0 p1 p2 p3 p4 p5 p6 (suc (suc (suc (suc (suc (suc zero)))))) h = p6
  small_kinds p0 p1 p2 p3 p4 p5 p6 (suc (suc (suc (suc (suc (suc (suc k))))))) h = absurd (omega arith)

  at_kind : (k j : ℕ) → P j → eqb k j ≡ true → P k
  at_kind k j p e = rw (eqb-true k j e) p

  by_kind : P 0 → P 1 → P 2 → P 3 → P 4 → P 5 → P 6 → P 9 → P 13 → P 14 → P 18 → P 19 → (k : ℕ) → is_scalar k ≡ true → P k
  by_kind p0 p1 p2 p3 p4 p5 p6 p9 p13 p14 p18 p19 k h =
      ⊎_elim
      (λ a. ⊎_elim
      (λ b. ⊎_elim
      (λ c. ⊎_elim
      (λ d. ⊎_elim (λ (e : leb k 6 ≡ true). small_kinds p0 p1 p2 p3 p4 p5 p6 k (leb-true k 6 e)) (at_kind k 9 p9) (or_cases (leb k 6) (eqb k 9) d))
      (at_kind k 13 p13) (or_cases (leb k 6 || eqb k 9) (eqb k 13) c))
      (at_kind k 14 p14) (or_cases (leb k 6 || eqb k 9 || eqb k 13) (eqb k 14) b))
      (at_kind k 18 p18) (or_cases (leb k 6 || eqb k 9 || eqb k 13 || eqb k 14) (eqb k 18) a))
      (at_kind k 19 p19) (or_cases (leb k 6 || eqb k 9 || eqb k 13 || eqb k 14 || eqb k 18) (eqb k 19) h)

  -- the straight kinds: the scalar ones, 7, 8 and 20
  by_straight : ((k : ℕ) → is_scalar k ≡ true → P k) → P 7 → P 8 → P 20 → (k : ℕ) → is_straight k ≡ true → P k
  by_straight scalar p7 p8 p20 k h =
      ⊎_elim
      (λ a. ⊎_elim
      (λ b. ⊎_elim (scalar k) (at_kind k 7 p7) (or_cases (is_scalar k) (eqb k 7) b))
      (at_kind k 8 p8) (or_cases (is_scalar k || eqb k 7) (eqb k 8) a))
      (at_kind k 20 p20) (or_cases (is_scalar k || eqb k 7 || eqb k 8) (eqb k 20) h)

module _ {Value : Type 0} (m : Meaning Value) (p : Place) {A B : State Value} (g : Before p A B) where
  abbrev kept : Bool
  kept = is_kept (outcome_at (fixed_mark p.s) (made p) p.i)

  abbrev out : List ℕ
  out = out_at (made p) p.i

  -- what is to be shown of the record
  abbrev pub Steps : Type 0
  Steps = Agree p.s p.list p.table (suc p.i) (turn m (rec p) A) (cond kept (turn m out B) B)

  stepped : {A' B' : State Value} → effect m (rec p) A ≡ A' → cond kept (effect m out B) B ≡ B' → Agree p.s p.list p.table (suc p.i) A' B' → Steps
  stepped a b h = rw (turn_runs m (rec p) A g.a_runs, turn_runs m out B g.b_runs, a, b) h

  -- ---- registers

  -- the record writes the values vs, and does nothing else to the colours
  record Writes (vs : List Value) : Type 0 where
    pub stays : (l : Loc) (x y : ℕ) (allocs : List Alloc) → update_allocs (shape_for (rec p)).action l x y allocs ≡ allocs
    pub valued : Valued A.cell (wants p) vs
    pub list_run : effect m (rec p) A ≡ write_all (dests (rec p)) vs A

  writes : {vs : List Value} → Writes vs → cond kept (effect m out B) B ≡ write_all (dsts p) vs B → Steps
  writes {vs} w run = stepped w.list_run run (inl (dests_after p w.stays g vs w.valued))

  -- the reduced run's state, with registers as the list's record names them
  abbrev through : State Value
  through = record { reg = λ w. B.reg (src p w); cell = B.cell; const = B.const; over = B.over }

  -- they are computed, from what is the same in both runs: the destinations are wanted with nothing, and the record is kept
  computes : (f : State Value → List Value) → f through ≡ f A → length (dests (rec p)) ≡ length (f A) → (shape_for (rec p)).action ≡ action.Other
      → kept ≡ true → effect m (rec p) A ≡ write_all (dests (rec p)) (f A) A → effect m out B ≡ write_all (dsts p) (f through) B → Steps
  computes f same all other stays a b =
      writes
      (record { stays = λ l x y allocs. rw other; valued = rw other (any_values A.cell (dests (rec p)) (f A) all); list_run = a })
      (rw stays (b ∙ ap (λ vs. write_all (dsts p) vs B) same))

  -- they are loaded: a found colour has the cell's value already, and the record is dropped if all were found; else every
  -- location joins the read set, so that the cells are the same in both runs
  abbrev found : Bool
  found = found_at (made p) p.i (state p)

  loads : (vs : List Value) → Writes vs → ((b : Bool) → found ≡ b → kept ≡ not b) → (found ≡ false → effect m out B ≡ write_all (dsts p) vs B) → Steps
  loads vs w stays reads = writes w (rw (stays found refl) (go found refl))
    where
      go : (b : Bool) → found ≡ b → cond (not b) (effect m out B) B ≡ write_all (dsts p) vs B
      go true q = sym (dests_same p w.stays g vs w.valued q)
      go false q = reads q

  -- what is still to be read after the record
  later : Live (count p) (suc p.i) (ends_of p.list) (regs p) (state p).colours (state p).allocs
  later = live_later (omega arith) g.live

  -- what a source and a cell are in the reduced run
  same : (w : ℕ) → In w (sources (rec p)) → A.reg w ≡ B.reg (src p w)
  same = source_same p g

  same_cell : (q x : ℕ) → InLocs (loc q x) (reads_at (made p) p.i) → A.cell q x ≡ B.cell q x
  same_cell q x = cell_same p g (loc q x)

  module _ (w1 w2 w3 w4 w5 w6 w7 : ℕ) where
    abbrev Is : ℕ → Type 0
    Is k = rec p ≡ row k w1 w2 w3 w4 w5 w6 w7

    -- ---- the loads, by whether the destination is wanted with the cell that it gets

    abbrev at : (q x : ℕ) → Option Loc
    at q x = Some (loc q x)

    its_cell : (q x : ℕ) (l : Loc) → at q x ≡ Some l → A.cell q x ≡ A.cell l.space l.index
    its_cell q x l h =
        let z : loc q x ≡ l = cc in
        ap (λ (j : Loc). A.cell j.space j.index) z

    load_step : Is 5 → Steps
    unfolding dests sources shape_of effect out_at colored words_for outcome_at outcome_of reads_at
    load_step e =
        loads (A.cell w2 w3 ∷ [])
        (record { stays = λ l x y allocs. rw e; valued = rw e (its_cell w2 w3, tt); list_run = rw e })
        (λ b q. rw (q, e) (kept_unless b outcome.Load refl))
        (λ q.
        let r : reads_at (made p) p.i ≡ loc w2 w3 ∷ [] = rw (q, e) in
        rw (e, same_cell w2 w3 (rw r (inl refl))))

    load_complex_step : Is 7 → Steps
    unfolding dests sources shape_of effect out_at colored words_for outcome_at outcome_of reads_at
    load_complex_step e =
        loads (A.cell w3 w4 ∷ A.cell w3 (w4 + 1) ∷ [])
        (record { stays = λ l x y allocs. rw e; valued = rw e (its_cell w3 w4, (its_cell w3 (w4 + 1), tt)); list_run = rw e })
        (λ b q. rw (q, e) (kept_unless b outcome.Load refl))
        (λ q.
        let r : reads_at (made p) p.i ≡ loc w3 w4 ∷ loc w3 (w4 + 1) ∷ [] = rw (q, e) in
        rw (e, same_cell w3 w4 (rw r (inl refl)), same_cell w3 (w4 + 1) (rw r (inr (inl refl)))))

    -- ---- Mov: the source's colour has the value. If it holds a location, the colour that is found holds it too, and so has
    -- the value; a Mov onto itself is dropped, and would change nothing

    module _ (e : Is 4) where
      abbrev held : Option Loc
      held = held_by (state p).allocs (src p w2)

      abbrev dst : ℕ
      dst = word_for (count p) p.i w1 held (state p)

      mov_out : out ≡ row 4 dst (src p w2) w3 w4 w5 w6 w7
      unfolding dests sources shape_of out_at colored words_for
      mov_out = rw e

      mov_kept : kept ≡ not (eqb dst (src p w2))
      unfolding outcome_at outcome_of shape_of
      mov_kept = rw mov_out (kept_unless (eqb dst (src p w2)) outcome.Move refl)

      moved : A.reg w2 ≡ B.reg (src p w2)
      unfolding sources shape_of
      moved = same w2 (rw e (inl refl))

      -- dropped or not, the reduced run has the value in the destination
      mov_run : cond kept (effect m out B) B ≡ write_all (dsts p) (A.reg w2 ∷ []) B
      unfolding dests sources shape_of effect words_for
      mov_run = rw mov_kept (go (eqb dst (src p w2)) refl)
        where
          go : (b : Bool) → eqb dst (src p w2) ≡ b → cond (not b) (effect m out B) B ≡ write_all (dsts p) (A.reg w2 ∷ []) B
          go true q = rw e (sym (write_self B dst (A.reg w2) (ap B.reg (eqb-true dst (src p w2) q) ∙ sym moved)))
          go false q = rw (mov_out, e, ← moved)

      -- a source's colour that holds a location is one of the n, and has the cell's value
      source_holds : (l : Loc) → held ≡ Some l → A.reg w2 ≡ A.cell l.space l.index
      unfolding sources shape_of
      source_holds l q = go (is_gen (src p w2)) refl
        where
          go : (b : Bool) → is_gen (src p w2) ≡ b → A.reg w2 ≡ A.cell l.space l.index
          go true b = moved ∙ g.sim.held (src p w2) l (source_small p g w2 (rw e (inl refl)) b) (rw b at q)
          go false b =
              let f : None ≡ Some l = rw b at q in
              clash (cc)

      mov_step : Steps
      unfolding dests sources shape_of effect
      mov_step = writes (record { stays = λ l x y allocs. rw e; valued = rw e (source_holds, tt); list_run = rw e }) mov_run

    -- ---- the saves: both runs store the same values, unless nobody looks at the cells; each location is then held by its
    -- source's colour alone

    abbrev beyond : Loc → Bool
    beyond = is_beyond (fixed_mark p.s)

    abbrev member : Loc → Bool
    member l = is_member l (read_set (made p))

    unseen : (l : Loc) → beyond l ≡ true → not (member l) ≡ true → Looked p l.space l.index → ⊥
    unseen l b c h =
        ⊎_elim
        (λ (k : beyond l ≡ false). clash (cc))
        (λ (k : member l ≡ true).
        let f : not true ≡ true = rw k at c in
        clash (cc))
        h

    module _ (e : Is 6) where
      abbrev l : Loc
      l = loc w2 w3

      save_out : out ≡ row 6 (src p w1) w2 w3 w4 w5 w6 w7
      unfolding dests sources shape_of out_at colored words_for
      save_out = rw e

      abbrev unread : Bool
      unread = beyond l && not (member l)

      save_kept : kept ≡ not unread
      unfolding outcome_at outcome_of shape_of
      save_kept = rw save_out (kept_unless unread outcome.Save refl)

      saved : B.reg (src p w1) ≡ A.reg w1
      unfolding sources shape_of
      saved = sym (same w1 (rw e (inl refl)))

      save_after : {B' : State Value} → B'.over ≡ false → cond kept (effect m out B) B ≡ B'
          → SimIn (count p) (ends_of p.list) (Looked p) (suc p.i) (regs p) (state p).colours (saved_to (src p w1) l (state p).allocs) (store w2 w3 (A.reg w1) A) B' → Steps
      unfolding dests sources shape_of effect
      save_after over run sim =
          stepped (rw e) run (inl (none_after p (rw e) (λ q. no_reset (rw e at q)) (rw e) g.a_runs over sim (live_save (src p w1) l later)))
        where
          no_reset : action.Save ≡ action.Clear → ⊥
          no_reset q = clash (cc)

      save_step : Steps
      unfolding effect
      save_step = go unread refl
        where
          go : (b : Bool) → unread ≡ b → Steps
          go true q =
              let b = and_both (beyond l) (not (member l)) q in
              save_after g.b_runs (rw (save_kept, q)) (sim_unseen (omega arith) g.live g.sim (src p w1) l (A.reg w1) saved (unseen l b.0 b.1))
          go false q = save_after g.b_runs (rw (save_kept, q, save_out, saved)) (sim_store (omega arith) g.live g.sim (src p w1) l (A.reg w1) saved)

    -- SaveComplex: the one save, and then the other
    module _ (e : Is 8) where
      abbrev x : Loc
      x = loc w3 w4

      abbrev y : Loc
      y = loc w3 (w4 + 1)

      both_out : out ≡ row 8 (src p w1) (src p w2) w3 w4 w5 w6 w7
      unfolding dests sources shape_of out_at colored words_for
      both_out = rw e

      abbrev both_unread : Bool
      both_unread = beyond x && not (member x || member y)

      both_kept : kept ≡ not both_unread
      unfolding outcome_at outcome_of shape_of
      both_kept = rw both_out (kept_unless both_unread outcome.Save refl)

      saved_x : B.reg (src p w1) ≡ A.reg w1
      unfolding sources shape_of
      saved_x = sym (same w1 (rw e (inl refl)))

      saved_y : B.reg (src p w2) ≡ A.reg w2
      unfolding sources shape_of
      saved_y = sym (same w2 (rw e (inr (inl refl))))

      abbrev one : List Alloc
      one = saved_to (src p w1) x (state p).allocs

      abbrev two : List Alloc
      two = saved_to (src p w2) y one

      -- clearing both and then giving both is the same
      cleared_first : give (src p w2) y (give (src p w1) x (clear y (clear x (state p).allocs))) ≡ two
      cleared_first = ap (give (src p w2) y) (sym (clear_give (src p w1) x y (clear x (state p).allocs) apart))
        where
          apart : (eqb w3 w3 && eqb w4 (w4 + 1)) ≡ false
          apart = rw (ne_eqb w4 (w4 + 1) (λ q. omega (arith, q))) (and-false (eqb w3 w3))

      both_after : {B' : State Value} → B'.over ≡ false → cond kept (effect m out B) B ≡ B'
          → SimIn (count p) (ends_of p.list) (Looked p) (suc p.i) (regs p) (state p).colours two (store_both w3 w4 (A.reg w1) (A.reg w2) A) B' → Steps
      unfolding dests sources shape_of effect
      both_after over run sim =
          stepped (rw e) run
          (inl (none_after p (rw e) (λ q. no_reset (rw e at q)) (rw e cleared_first) g.a_runs over sim (live_save (src p w2) y (live_save (src p w1) x later))))
        where
          no_reset : action.SaveComplex ≡ action.Clear → ⊥
          no_reset q = clash (cc)

      save_complex_step : Steps
      unfolding effect
      save_complex_step = go both_unread refl
        where
          live_one : Live (count p) (suc p.i) (ends_of p.list) (regs p) (state p).colours one
          live_one = live_save (src p w1) x later

          -- the partner of a cell beyond the mark is beyond it
          further : (i : ℕ) → beyond (loc w3 i) ≡ true → beyond (loc w3 (i + 1)) ≡ true
          further i h =
              let b = and_both (eqb w3 0) (leb (fixed_mark p.s) i) h in
              rw (b.0, le-leb (fixed_mark p.s) (i + 1) (omega (arith, leb-true (fixed_mark p.s) i b.1)))

          go : (b : Bool) → both_unread ≡ b → Steps
          go true q =
              let b = and_both (beyond x) (not (member x || member y)) q in
              let c = neither (member x) (member y) b.1 in
              both_after g.b_runs (rw (both_kept, q))
              (sim_unseen (omega arith) live_one
              (sim_unseen {i = p.i} (omega arith) g.live g.sim (src p w1) x (A.reg w1) saved_x (unseen x b.0 c.0)) (src p w2) y (A.reg w2) saved_y
              (unseen y (further w4 b.0) c.1))
          go false q =
              both_after g.b_runs (rw (both_kept, q, both_out, saved_x, saved_y))
              (sim_store (omega arith) live_one (sim_store {i = p.i} (omega arith) g.live g.sim (src p w1) x (A.reg w1) saved_x) (src p w2) y (A.reg w2) saved_y)

    -- ---- Nop is dropped, and End stops both runs

    nop_step : Is 0 → Steps
    unfolding dests sources shape_of effect out_at colored words_for outcome_at outcome_of
    nop_step e = writes {vs = []} (record { stays = λ l x y allocs. rw e; valued = rw e tt; list_run = rw e }) (rw e)

    end_step : Is 1 → Steps
    unfolding dests sources shape_of effect out_at colored words_for outcome_at outcome_of
    end_step e =
        let q = ends_equal p.s p.list p.table (running_same p.s p.list p.table g) in
        stepped {A' = finish A} {B' = finish B} (rw e) (rw e)
        (inr (record { a_over = refl; b_over = refl; equal = record { named = q.named; mem = q.mem; param = q.param; stack = q.stack } }))

    -- ---- by the kind

    pub straight_step : (k : ℕ) → is_straight k ≡ true → Is k → Steps
    unfolding dests sources shape_of effect out_at colored words_for outcome_at outcome_of reads_at
    straight_step =
        by_straight
        (λ (k : ℕ). Is k → Steps)
        (by_kind
        (λ (k : ℕ). Is k → Steps)
        nop_step
        end_step
        (λ e. computes (λ st. m.uni w1 (st.reg w3) ∷ []) (rw (same w3 (rw e (inl refl)))) (rw e) (rw e) (rw e) (rw e) (rw e))
        (λ e. computes (λ st. m.bi w1 (st.reg w3) (st.reg w4) ∷ []) (rw (same w3 (rw e (inl refl)), same w4 (rw e (inr (inl refl))))) (rw e) (rw e) (rw e) (rw e) (rw e))
        mov_step
        load_step
        save_step
        (λ e. computes (λ st. st.const w2 ∷ []) (rw (g.sim.const w2)) (rw e) (rw e) (rw e) (rw e) (rw e))
        (λ e. computes (λ st. m.fused w1 (st.reg w3) (st.reg w4) (st.reg w5) ∷ [])
        (rw (same w3 (rw e (inl refl)), same w4 (rw e (inr (inl refl))), same w5 (rw e (inr (inr (inl refl)))))) (rw e) (rw e) (rw e) (rw e) (rw e))
        (λ e. computes (λ st. m.select (st.cell w4 w5) (st.reg w2) (st.reg w3) ∷ [])
        (rw (same_cell w4 w5 (rw e (inl refl)), same w2 (rw e (inl refl)), same w3 (rw e (inr (inl refl))))) (rw e) (rw e) (rw e) (rw e) (rw e))
        (λ e. computes (λ st. m.bi w1 (st.reg w3) (st.cell w4 w5) ∷ [])
        (rw (same_cell w4 w5 (rw e (inl refl)), same w3 (rw e (inl refl)))) (rw e) (rw e) (rw e) (rw e) (rw e))
        (λ e. computes (λ st. m.bi w1 (st.reg w3) (st.const w4) ∷ []) (rw (g.sim.const w4, same w3 (rw e (inl refl)))) (rw e) (rw e) (rw e) (rw e) (rw e)))
        load_complex_step
        save_complex_step
        (λ e. computes (λ st. m.complex_x w1 (st.reg w4) (st.reg w5) (st.reg w6) (st.reg w7) ∷ m.complex_y w1 (st.reg w4) (st.reg w5) (st.reg w6) (st.reg w7) ∷ [])
        (rw (same w4 (rw e (inl refl)), same w5 (rw e (inr (inl refl))), same w6 (rw e (inr (inr (inl refl)))), same w7 (rw e (inr (inr (inr (inl refl)))))))
        (rw e) (rw e) (rw e) (rw e) (rw e))
