-- The destinations of a record in both runs: each gets its value, in the list's run in its register and in the reduced run
-- in the colour that is chosen for it; and where all were found, the reduced run has the values already.
-- By induction on the destinations, x before y: the runs agree after one as they did before it.
use Rattle.std.specs.Prelude.{Option, Some, None}
use Prim.Native.Nat.{ℕ, suc, ◌≤◌, ◌<◌}
use mathlib.Core.Bool.{Bool, true, false, cond, ◌&&◌}
use mathlib.Core.List.{List, [], ◌∷◌, map}
use mathlib.Core.Logic.{◌⊎◌, inl, inr}
use mathlib.Core.Path.{◌≡◌, refl, sym, subst, fun_ext, ◌∙◌}
use native.Mathlib.Omega.{arith}
use lib.Dec.{eqb}
use lib.ListN.{length, set, length-set}
use borrow.Author.Tests.{ltb-false}
use Rattle.mir.specs.Records.{is_gen}
use Rattle.mir.specs.Renaming.{produced}
use Rattle.mir.proofs.Clash.{clash}
use Rattle.mir.proofs.Renaming.{and_both}
use Rattle.passes.specs.declared.alloc.Choice.{Choice}
use Rattle.passes.specs.declared.alloc.Choice.TheVariants.{Found, Free, Empty}
use Rattle.passes.specs.declared.symbol.Loc.{Loc}
use Rattle.passes.specs.Color.{Coloring, colour_at, choose, chosen, is_found, wanted, after_dest, after_dests, words_for, found_all}
use Rattle.passes.specs.Machine.{State, write}
use Rattle.theorems.proofs.Assign.{Live, Gets, SimIn, static_in, number_in, holds_inside, sim_assign, live_assign, live_later}
use Rattle.theorems.proofs.Choice.{choose_free, choose_found}
use Rattle.theorems.proofs.Create.{Names}
use Rattle.theorems.proofs.Pool.{Before, words, given, colour_for, after_gen, afters_gen, afters_named, words_gen, words_named, produced_gen, produced_named}
use Rattle.theorems.proofs.Pool.{inside, never, c_below, before_rest, before_named}
use Rattle.theorems.proofs.Sim.{sim_next, into_named}
use Rattle.theorems.proofs.Update.{upd_own}

-- registers are written in order, each with its value
abbrev pub write_all : {Value : Type 0} → List ℕ → List Value → State Value → State Value
write_all [] vs st = st
write_all (w ∷ ws) [] st = st
write_all (w ∷ ws) (v ∷ vs) st = write_all ws vs (write w v st)

pub still_over : {Value : Type 0} (ws : List ℕ) (vs : List Value) (st : State Value) → (write_all ws vs st).over ≡ st.over
still_over [] vs st = refl
still_over (w ∷ ws) [] st = refl
still_over (w ∷ ws) (v ∷ vs) st = still_over ws vs (write w v st)

-- there is a value for each destination; one that is wanted with a location gets the cell's
abbrev pub Valued : {Value : Type 0} → (ℕ → ℕ → Value) → List (ℕ × Option Loc) → List Value → Type 0
Valued cell [] vs = Unit {0}
Valued cell (d ∷ ds) [] = ⊥
Valued cell (d ∷ ds) (v ∷ vs) = ((l : Loc) → d.1 ≡ Some l → v ≡ cell l.space l.index) × Valued cell ds vs

-- those that are wanted with nothing get any values
pub any_values : {Value : Type 0} (cell : ℕ → ℕ → Value) (ws : List ℕ) (vs : List Value) → length ws ≡ length vs → Valued cell (wanted ws None None) vs
any_values {Value} cell [] vs e = tt
any_values {Value} cell (w ∷ ws) [] e = clash (cc)
any_values {Value} cell (w ∷ ws) (v ∷ vs) e = (λ l q. clash (cc), rest ws vs (omega (arith, e)))
  where
    rest : (ws : List ℕ) (vs : List Value) → length ws ≡ length vs → Valued cell (map (λ y. (y, None)) ws) vs
    rest [] vs e = tt
    rest (w ∷ ws) [] e = clash (cc)
    rest (w ∷ ws) (v ∷ vs) e = (λ l q. clash (cc), rest ws vs (omega (arith, e)))

-- writing a register's own value changes nothing
pub write_self : {Value : Type 0} (B : State Value) (w : ℕ) (v : Value) → B.reg w ≡ v → write w v B ≡ B
write_self B w v h =
    let f : B.reg ≡ (λ (r : ℕ). cond (eqb r w) v (B.reg r)) = fun_ext (upd_own B.reg w v h) in
    sym (λ k. record { reg = f k; cell = B.cell; const = B.const; over = B.over })

module _ {Value : Type 0} (n i : ℕ) (E : List ℕ) (Seen : ℕ → ℕ → Type 0) (few : n ≤ 256) where
  -- what agrees before the destinations, before record i (j is i) or after another one (j is suc i); and after them
  pub record Agrees (j : ℕ) (regs : List (Option ℕ)) (st : Coloring) (A B : State Value) : Type 0 where
    pub early : j ≤ suc i
    pub short : length regs ≤ 256
    pub live : Live n j E regs st.colours st.allocs
    pub sim : SimIn n E Seen j regs st.colours st.allocs A B

  pub record Wrote (ds : List (ℕ × Option Loc)) (vs : List Value) (m : ℕ) (regs : List (Option ℕ)) (st : Coloring) (A B : State Value) : Type 0 where
    pub live : Live n (suc i) E (produced (words ds) m regs) (after_dests n i E ds st).colours (after_dests n i E ds st).allocs
    pub sim : SimIn n E Seen (suc i) (produced (words ds) m regs) (after_dests n i E ds st).colours (after_dests n i E ds st).allocs
        (write_all (words ds) vs A) (write_all (words_for n i E ds st) vs B)
    pub same : found_all n i E ds st ≡ true → write_all (words_for n i E ds st) vs B ≡ B

  -- one destination, and those after it
  module _ (w : ℕ) (h : Option Loc) (ds : List (ℕ × Option Loc)) (v : Value) (vs : List Value) (m : ℕ) (regs : List (Option ℕ)) (st : Coloring) {j : ℕ} {A B : State Value}
      (b : Before n i E ((w, h) ∷ ds) m regs st) (g : Agrees j regs st A B) where
    -- a Gen one; v is the value of the location that its colour then holds
    module _ (gen : is_gen w ≡ true) (holds : (l : Loc) → h ≡ Some l → v ≡ A.cell l.space l.index) where
      -- a colour that is found has the value already
      had : (k : ℕ) → choose n i h st.allocs ≡ Found k → v ≡ B.reg k
      had k q =
          let f = choose_found n i st.allocs h k q in
          holds f.1.0 f.1.1 ∙ sym (g.sim.held k f.1.0 f.0 f.1.2)

      safe : (k : Choice) → choose n i h st.allocs ≡ k → ((colour_at st.allocs (chosen k)).life ≤ i) ⊎ (v ≡ B.reg (chosen k))
      safe (Found k) q = inr (had k q)
      safe (Free k) q = inl (choose_free n i st.allocs h k q).1
      safe Empty q = absurd (never n i E w h ds m regs st b gen q)

      at_found : (k : Choice) → choose n i h st.allocs ≡ k → is_found k ≡ true → v ≡ B.reg (chosen k)
      at_found (Found k) q f = had k q
      at_found (Free k) q f = clash (cc)
      at_found Empty q f = clash (cc)

      gets : Gets n i regs st.allocs A B (write (colour_for n i E h st) v B) w (colour_for n i E h st) h v
      unfolding colour_for
      gets =
          record {
            gen = inside n i E w h ds m regs st b gen;
            colour = c_below n i E w h ds m regs st b gen;
            few = few;
            wide = b.wide;
            enough = b.enough;
            reg = λ k. refl;
            cell = λ q x. refl;
            const = λ k. refl;
            safe = safe (choose n i h st.allocs) refl;
            holds = holds;
          }

      names : Names regs (length st.colours)
      names = subst (Names regs) (sym b.next) b.names

      agrees_gen : Agrees (suc i) (set regs w (Some m)) (given n i E (colour_for n i E h st) h st) (write w v A) (write (colour_for n i E h st) v B)
      unfolding given
      agrees_gen =
          record {
            early = omega arith;
            short = rw length-set g.short;
            live = rw (← b.next) (live_assign g.early names g.live g.sim gets);
            sim = rw (← b.next) (sim_assign g.early names g.live g.sim gets);
          }

      with_gen : Wrote ds vs (suc m) (set regs w (Some m)) (given n i E (colour_for n i E h st) h st) (write w v A) (write (colour_for n i E h st) v B) → Wrote ((w, h) ∷ ds) (v ∷ vs) m regs st A B
      unfolding words found_all colour_for
      with_gen up =
          let e = afters_gen n i E w h ds st gen in
          let r = produced_gen w (words ds) m regs gen in
          let o = words_gen n i E w h ds st gen in
          record { live = rw (e, r) up.live; sim = rw (e, r, o) up.sim; same = λ q. rw o (nothing_new q) }
        where
          nothing_new : found_all n i E ((w, h) ∷ ds) st ≡ true → write_all (words_for n i E ds (given n i E (colour_for n i E h st) h st)) vs (write (colour_for n i E h st) v B) ≡ B
          nothing_new q =
              let rest = found_all n i E ds (after_dest n i E w h st) in
              let a = and_both (is_gen w && is_found (choose n i h st.allocs)) rest q in
              let f = (and_both (is_gen w) (is_found (choose n i h st.allocs)) a.0).1 in
              up.same (rw (after_gen n i E w h st gen) at a.1) ∙ write_self B (colour_for n i E h st) v (sym (at_found (choose n i h st.allocs) refl f))

    agrees_named : is_gen w ≡ false → Agrees (suc i) regs st (write w v A) (write w v B)
    agrees_named q =
        record {
          early = omega arith;
          short = g.short;
          live = live_later g.early g.live;
          sim = into_named g.early g.sim w v (ltb-false w 256 q) few small;
        }
      where
        -- the registers that hold statics still to be read, and their colours, are Gen
        small : (r t : ℕ) → static_in regs r ≡ Some t → j ≤ number_in E t → (r < 256) × (number_in st.colours t < n)
        small r t e l = (omega (arith, holds_inside regs r t e, g.short), (g.live.of r t e l).below)

    with_named : is_gen w ≡ false → Wrote ds vs m regs st (write w v A) (write w v B) → Wrote ((w, h) ∷ ds) (v ∷ vs) m regs st A B
    unfolding words found_all
    with_named q up =
        let e = afters_named n i E w h ds st q in
        let r = produced_named w (words ds) m regs q in
        let o = words_named n i E w h ds st q in
        record { live = rw (e, r) up.live; sim = rw (e, r, o) up.sim; same = λ f. absurd (not_found f) }
      where
        not_found : found_all n i E ((w, h) ∷ ds) st ≡ true → ⊥
        not_found f =
            let a = and_both (is_gen w && is_found (choose n i h st.allocs)) (found_all n i E ds (after_dest n i E w h st)) f in
            let t = (and_both (is_gen w) (is_found (choose n i h st.allocs)) a.0).0 in
            clash (cc)

  -- the destinations ds with the values vs, m being the next static
  abbrev Writing : List (ℕ × Option Loc) → List Value → ℕ → Type 0
  Writing ds vs m =
      (regs : List (Option ℕ)) (st : Coloring) (j : ℕ) (A B : State Value) → Before n i E ds m regs st → Agrees j regs st A B → Valued A.cell ds vs → Wrote ds vs m regs st A B

  pub write_dests : (ds : List (ℕ × Option Loc)) (vs : List Value) (m : ℕ) → Writing ds vs m
  unfolding after_dests words_for words produced found_all
  write_dests [] vs m regs st j A B b g h = record { live = live_later g.early g.live; sim = sim_next g.early g.sim; same = λ q. refl }
  write_dests (d ∷ ds) [] m regs st j A B b g h = absurd h
  write_dests (d ∷ ds) (v ∷ vs) m regs st j A B b g h = go (is_gen d.0) refl (write_dests ds vs (suc m)) (write_dests ds vs m)
    where
      go : (t : Bool) → is_gen d.0 ≡ t → Writing ds vs (suc m) → Writing ds vs m → Wrote (d ∷ ds) (v ∷ vs) m regs st A B
      go true q up same =
          with_gen d.0 d.1 ds v vs m regs st b g q h.0
          (up _ _ _ _ _ (before_rest n i E d.0 d.1 ds m regs st b q) (agrees_gen d.0 d.1 ds v vs m regs st b g q h.0) h.1)
      go false q up same =
          with_named d.0 d.1 ds v vs m regs st b g q
          (same _ _ _ _ _ (before_named n i E d.0 d.1 ds m regs st b q) (agrees_named d.0 d.1 ds v vs m regs st b g q) h.1)
