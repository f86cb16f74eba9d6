-- How full the registers get: `fullest_fits`, never more than count_regs, and `fullest_none`, 0 exactly if no record has a Gen source.
-- The choice of a static that is read later leaves its colour needed; where nothing is read, no life is above the record at hand.
use Rattle.std.specs.Prelude.{Option, Some, None, max}
use Rattle.std.specs.List.{list_all}
use Prim.Native.Nat.{ℕ, zero, suc, ◌+◌, ◌≤◌, ◌<◌}
use mathlib.Core.Bool.{Bool, true, false, cond, not}
use mathlib.Core.List.{List, [], ◌∷◌}
use mathlib.Core.Logic.{inl, inr, ⊎_elim}
use mathlib.Core.Path.{◌≡◌, refl, sym, ap, ◌∙◌}
use native.Mathlib.Omega.{arith}
use lib.Dec.{ltb, eqb}
use lib.ListN.{length, get_or, set, take, length-set, length-append}
use lib.Seq.{get_or-take, get_or-set_same, length-take-le}
use Rattle.std.proofs.Common.{length-take}
use native.Mathlib.Decide.{dec_lt}
use borrow.Author.Tests.{lt-ltb, le-ltb, eqb-true, eqb-false}
use Rattle.std.proofs.lemmas.List.Sums.{count_by-le-length, sum_by-cons, sum_by_more_le}
use Rattle.mir.specs.declared.config.Settings.{Settings}
use Rattle.mir.specs.declared.shape.Action.TheVariants as action
use Rattle.mir.specs.Records.{records, record_at, is_gen}
use Rattle.mir.specs.Renaming.{gens, statics_to, regs_to}
use Rattle.mir.specs.Shapes.{shape_for, dests, sources}
use Rattle.mir.proofs.Clash.{clash, same_or}
use Rattle.mir.proofs.Folds.{below_suc, all_each, all_at}
use Rattle.mir.proofs.Passing.{ListPasses, list_passes}
use Rattle.passes.specs.declared.alloc.Alloc.{Alloc}
use Rattle.passes.specs.declared.symbol.Loc.{Loc}
use Rattle.passes.specs.Color.{Coloring, Setup, setup, alloc, colour_at, loc_of, after_dest, after_dests, sources_at, dests_at, color_step, color_to}
use Rattle.passes.specs.Color.{needed, fullest_for, fullest_at, fullest_to, no_gen_source}
use Rattle.passes.specs.Contract.{fullest_of}
use Rattle.passes.specs.Create.{ends_of}
use Rattle.passes.specs.Machine.{Passing}
use Rattle.theorems.proofs.Actions.{same_action}
use Rattle.theorems.proofs.Create.{In, names_to, all_in, read_end, unread_end}
use Rattle.theorems.proofs.Locations.{update_life, blank_life}
use Rattle.theorems.proofs.NeverEmpty.{wanted_words, before_of, ready_to, source_static}
use Rattle.theorems.proofs.Pool.{words, Before, before_rest, before_named, c_below, after_gen, after_named, given, colour_for, gens_gen, gens_named}

-- ---- never more than there are

needed_le : (n i : ℕ) (allocs : List Alloc) → needed n i allocs ≤ n
needed_le n i allocs = omega (arith, count_by-le-length (λ (a : Alloc). ltb i a.life) (take n allocs), length-take n allocs)

fullest_for_le : (n i : ℕ) (E : List ℕ) (ds : List (ℕ × Option Loc)) (st : Coloring) → fullest_for n i E ds st ≤ n
unfolding fullest_for
fullest_for_le n i E [] st = omega arith
fullest_for_le n i E (d ∷ ds) st = go (is_gen d.0) (fullest_for_le n i E ds (after_dest n i E d.0 d.1 st))
  where
    after : Coloring
    after = after_dest n i E d.0 d.1 st

    go : (b : Bool) → fullest_for n i E ds after ≤ n → max (cond b (needed n i after.allocs) 0) (fullest_for n i E ds after) ≤ n
    go true up = omega (arith, needed_le n i after.allocs, up)
    go false up = omega (arith, up)

fullest_to_le : (u : Setup) (i : ℕ) → fullest_to u i ≤ u.count
unfolding fullest_to
fullest_to_le u zero = omega arith
fullest_to_le u (suc i) = omega (arith, fullest_to_le u i, fullest_for_le u.count i u.ends (dests_at u i (color_to u i)) (color_to u i))

-- of every list
pub fullest_fits : (s : Settings) (list table : List ℕ) → fullest_of s list table ≤ s.count_regs
unfolding fullest_of
fullest_fits s list table = fullest_to_le (setup s list table) (records list)

-- ---- a static that is read later

needed_some : (n i : ℕ) (allocs : List Alloc) (c : ℕ) → c < n → n ≤ length allocs → i < (colour_at allocs c).life → 0 < needed n i allocs
needed_some n i allocs c l w h =
    let len = length-take-le n allocs w in
    let at : get_or (take n allocs) c (alloc 0 None) ≡ colour_at allocs c = get_or-take n allocs c (alloc 0 None) l in
    let one : cond {A = ℕ} (ltb i (get_or (take n allocs) c (alloc 0 None)).life) 1 0 ≡ 1 = rw (at, lt-ltb i (colour_at allocs c).life h) refl in
    omega (arith, one, sum_by_more_le (λ (a : Alloc). cond (ltb i a.life) 1 0) (take n allocs) c (alloc 0 None) (omega (arith, len)))

module _ (n i : ℕ) (E : List ℕ) where
  -- its choice leaves its colour needed
  choice_fills : (w : ℕ) (h : Option Loc) (ds : List (ℕ × Option Loc)) (m : ℕ) (regs : List (Option ℕ)) (st : Coloring) (b : Before n i E ((w, h) ∷ ds) m regs st)
      → is_gen w ≡ true → i < get_or E m 0 → 0 < needed n i (after_dest n i E w h st).allocs
  unfolding given
  choice_fills w h ds m regs st b g e =
      let c = colour_for n i E h st in
      let below = c_below n i E w h ds m regs st b g in
      let x = alloc (max (colour_at st.allocs c).life (get_or E (length st.colours) 0)) h in
      let at : colour_at (set st.allocs c x) c ≡ x = get_or-set_same st.allocs c x (alloc 0 None) (omega (arith, below, b.enough)) in
      rw (after_gen n i E w h st g)
      (needed_some n i (set st.allocs c x) c below (rw length-set b.enough)
      (omega (arith, ap (λ (y : Alloc). y.life) at, ap (λ k. get_or E k 0) b.next, e)))

  -- and so do the destinations, of which k is a static, the first being m
  abbrev Fill : List (ℕ × Option Loc) → ℕ → Type 0
  Fill ds m =
      (regs : List (Option ℕ)) (st : Coloring) → Before n i E ds m regs st
      → (k : ℕ) → m ≤ k → k < m + gens (words ds) → i < get_or E k 0 → 0 < fullest_for n i E ds st

  read_fills : (ds : List (ℕ × Option Loc)) (m : ℕ) → Fill ds m
  unfolding fullest_for words gens
  read_fills [] m regs st b k l h e = absurd (omega arith)
  read_fills (d ∷ ds) m regs st b k l h e = go (is_gen d.0) refl (read_fills ds (suc m)) (read_fills ds m)
    where
      after : Coloring
      after = after_dest n i E d.0 d.1 st

      go : (g : Bool) → is_gen d.0 ≡ g → Fill ds (suc m) → Fill ds m
          → 0 < max (cond g (needed n i after.allocs) 0) (fullest_for n i E ds after)
      go true g more none =
          ⊎_elim (λ (q : k ≡ m). omega (arith, choice_fills d.0 d.1 ds m regs st b g (rw q at e)))
          (λ (q : k ≡ m → ⊥).
          let rest = more (set regs d.0 (Some m)) _ (before_rest n i E d.0 d.1 ds m regs st b g) k
          (omega (arith, q)) (omega (arith, gens_gen d.0 (words ds) g)) e in
          omega (arith, rw (← (after_gen n i E d.0 d.1 st g)) at rest)) (same_or k m)
      go false g more none =
          let rest = none regs st (before_named n i E d.0 d.1 ds m regs st b g) k l (omega (arith, gens_named d.0 (words ds) g)) e in
          rw (after_named n i E d.0 d.1 st g) (omega (arith, rest))

fullest_before : (u : Setup) (j i : ℕ) → i < j → fullest_at u i ≤ fullest_to u j
unfolding fullest_to
fullest_before u zero i l = absurd (omega arith)
fullest_before u (suc j) i l =
    ⊎_elim (λ (k : i < j). omega (arith, fullest_before u j i k)) (λ (e : i ≡ j). omega (arith, ap (fullest_at u) e)) (below_suc l)

-- the record that made a static
made_by : (list : List ℕ) (j t : ℕ) → t < statics_to list j → (i : ℕ) × (i < j) × (statics_to list i ≤ t) × (t < statics_to list (suc i))
unfolding statics_to
made_by list zero t h = absurd (omega arith)
made_by list (suc j) t h = go (dec_lt t (statics_to list j)) (made_by list j t)
  where
    go : Dec (t < statics_to list j) → (t < statics_to list j → (i : ℕ) × (i < j) × (statics_to list i ≤ t) × (t < statics_to list (suc i)))
        → (i : ℕ) × (i < suc j) × (statics_to list i ≤ t) × (t < statics_to list (suc i))
    go (yes q) up = let r = up q in (r.0, omega (arith, r.1), r.2, r.3)
    go (no q) up = (j, omega arith, omega (arith, q), h)

module _ (s : Settings) (list table : List ℕ) (passes : ListPasses s list table) where
  abbrev u : Setup
  u = setup s list table

  read_full : (j w : ℕ) → j < records list → In w (sources (record_at list j)) → is_gen w ≡ true → 0 < fullest_of s list table
  unfolding fullest_of statics_to
  read_full j w l m g =
      let t = source_static s list table passes j l w m g in
      let by = made_by list j t.0 ((names_to list j).below w t.0 t.1) in
      let inside : by.0 < records list = omega (arith, by.1) in
      let rec = record_at list by.0 in
      let fills = read_fills s.count_regs by.0 (ends_of list) _ (statics_to list by.0) (regs_to list by.0) _ (before_of s list table passes by.0 inside) t.0 by.2
      (rw (wanted_words (dests rec)) by.3) (omega (arith, by.1, read_end list j w t.0 l m g t.1)) in
      omega (arith, fills, fullest_before u (records list) by.0 inside)

-- ---- nothing is read

none_needed : (n i : ℕ) (allocs : List Alloc) → ((c : ℕ) → (colour_at allocs c).life ≤ i) → needed n i allocs ≡ 0
none_needed zero i allocs h = refl
none_needed (suc n) i [] h = refl
none_needed (suc n) i (a ∷ rest) h =
    sum_by-cons (λ (x : Alloc). cond (ltb i x.life) 1 0) a (take n rest)
    ∙ omega (arith, ap {B = ℕ} (λ b. cond b 1 0) (le-ltb i a.life (h 0)), none_needed n i rest (λ c. h (suc c)))

set_life : (allocs : List Alloc) (c x : ℕ) (h : Option Loc) (k : ℕ) → (colour_at (set allocs c (alloc x h)) k).life ≤ max x (colour_at allocs k).life
set_life [] c x h k = omega arith
set_life (a ∷ rest) zero x h zero = omega arith
set_life (a ∷ rest) zero x h (suc k) = omega arith
set_life (a ∷ rest) (suc c) x h zero = omega arith
set_life (a ∷ rest) (suc c) x h (suc k) = set_life rest c x h k

-- no life is above i
abbrev Low : ℕ → List Alloc → Type 0
Low i allocs = (c : ℕ) → (colour_at allocs c).life ≤ i

module _ (n i : ℕ) (E : List ℕ) where
  low_given : (w : ℕ) (h : Option Loc) (st : Coloring) → is_gen w ≡ true → Low i st.allocs → get_or E (length st.colours) 0 ≤ i → Low i (after_dest n i E w h st).allocs
  unfolding given
  low_given w h st g low e k =
      let c = colour_for n i E h st in
      rw (after_gen n i E w h st g) (omega (arith, low k, low c, e, set_life st.allocs c (max (colour_at st.allocs c).life (get_or E (length st.colours) 0)) h k))

  made_one : (w : ℕ) (h : Option Loc) (st : Coloring) → is_gen w ≡ true → length (after_dest n i E w h st).colours ≡ length st.colours + 1
  unfolding given
  made_one w h st g = ap (λ (x : Coloring). length x.colours) (after_gen n i E w h st g) ∙ length-append st.colours (colour_for n i E h st ∷ [])

  -- destinations whose statics end where they are written leave none needed
  abbrev Quiet : List (ℕ × Option Loc) → Coloring → Type 0
  Quiet ds st =
      Low i st.allocs → ((k : ℕ) → k < length st.colours + gens (words ds) → get_or E k 0 ≤ i)
      → (fullest_for n i E ds st ≡ 0) × Low i (after_dests n i E ds st).allocs

  low_fills : (ds : List (ℕ × Option Loc)) (st : Coloring) → Quiet ds st
  unfolding fullest_for after_dests words gens
  low_fills [] st low ends = (refl, low)
  low_fills (d ∷ ds) st low ends = go (is_gen d.0) refl (low_fills ds (after_dest n i E d.0 d.1 st))
    where
      after : Coloring
      after = after_dest n i E d.0 d.1 st

      go : (g : Bool) → is_gen d.0 ≡ g → Quiet ds after
          → (max (cond g (needed n i after.allocs) 0) (fullest_for n i E ds after) ≡ 0) × Low i (after_dests n i E ds after).allocs
      go true g up =
          let lower = low_given d.0 d.1 st g low (ends (length st.colours) (omega (arith, gens_gen d.0 (words ds) g))) in
          let rest = up lower (λ k h. ends k (omega (arith, gens_gen d.0 (words ds) g, made_one d.0 d.1 st g))) in
          (omega (arith, rest.0, none_needed n i after.allocs lower), rest.1)
      go false g up =
          let same = after_named n i E d.0 d.1 st g in
          let rest = up (rw same low) (λ k h. ends k (omega (arith, gens_named d.0 (words ds) g, ap (λ (x : Coloring). length x.colours) same))) in
          (omega (arith, rest.0), rest.1)

module _ (s : Settings) (list table : List ℕ) (passes : ListPasses s list table) (none : no_gen_source list ≡ true) where
  -- a static ends where it is written
  ends_low : (i k : ℕ) → i < records list → k < statics_to list (suc i) → get_or (ends_of list) k 0 ≤ i
  unfolding no_gen_source
  ends_low i k l h =
      unread_end list i k h
      (λ j after inside w m g e.
      let all = all_at (λ r. list_all (λ v. not (is_gen v)) (sources (record_at list r))) (records list) j none inside in
      let named = all_in (λ v. not (is_gen v)) (sources (record_at list j)) w all m in
      clash (cc)) l

  quiet : (i : ℕ) → i ≤ records list → (fullest_to (setup s list table) i ≡ 0) × Low i (color_to (setup s list table) i).allocs
  unfolding fullest_to color_to color_step statics_to
  quiet zero l = (refl, λ c. omega (arith, blank_life c))
  quiet (suc i) l =
      let up = quiet i (omega arith) in
      let st = color_to (setup s list table) i in
      let rec = record_at list i in
      let act = (shape_for rec).action in
      let srcs = sources_at (setup s list table) i st in
      let given = after_dests s.count_regs i (ends_of list) (dests_at (setup s list table) i st) st in
      let done = low_fills s.count_regs i (ends_of list) (dests_at (setup s list table) i st) st up.1
      (λ k h. ends_low i k (omega arith) (rw ((ready_to s list table passes i (omega arith)).next, wanted_words (dests rec)) at h)) in (
        omega (arith, up.0, done.0),
        λ c. ⊎_elim (λ (e : act ≡ action.Clear). rw e (omega (arith, blank_life c)))
            (λ (h : act ≡ action.Clear → ⊥). omega (arith, update_life (loc_of rec) (get_or srcs 0 0) (get_or srcs 1 0) given.allocs act h c, done.1 c))
            (same_action act action.Clear),
      )

-- words that all pass
in_all : (p : ℕ → Bool) (ws : List ℕ) → ((w : ℕ) → In w ws → p w ≡ true) → list_all p ws ≡ true
in_all p [] h = refl
in_all p (w ∷ ws) h = rw (h w (inl refl)) (in_all p ws (λ v m. h v (inr m)))

pub fullest_none : (s : Settings) (list table : List ℕ) → Passing s list table → eqb (fullest_of s list table) 0 ≡ no_gen_source list
unfolding fullest_of Passing no_gen_source
fullest_none s list table h = go (eqb (fullest_of s list table) 0) refl (no_gen_source list) refl
  where
    passes : ListPasses s list table
    passes = list_passes true s list table h

    named : fullest_of s list table ≡ 0 → (j : ℕ) → j < records list → (w : ℕ) → In w (sources (record_at list j)) → not (is_gen w) ≡ true
    named e j l w m = gen (is_gen w) refl
      where
        gen : (b : Bool) → is_gen w ≡ b → not b ≡ true
        gen true g = absurd (omega (arith, e, read_full s list table passes j w l m g))
        gen false g = refl

    go : (a : Bool) → eqb (fullest_of s list table) 0 ≡ a → (b : Bool) → no_gen_source list ≡ b → a ≡ b
    go true e true f = refl
    go true e false f =
        let each = all_each (λ r. list_all (λ v. not (is_gen v)) (sources (record_at list r))) (records list)
        (λ j l. in_all (λ v. not (is_gen v)) (sources (record_at list j)) (named (eqb-true (fullest_of s list table) 0 e) j l)) in
        sym each ∙ f
    go false e true f = absurd (eqb-false (fullest_of s list table) 0 e (quiet s list table passes f (records list) (omega arith)).0)
    go false e false f = refl
