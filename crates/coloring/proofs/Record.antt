-- A record of a list that passes, on the lent slices: colouring it takes the slices of `color_to` at i to those at i + 1, its
-- choices all pick a colour, and the marks of its statics say whether every destination was found.
-- By the laws of destinations, and because a source's static is among those that have a colour.
use Rattle.passes.specs.declared.symbol.Loc.{Loc}
use Rattle.std.specs.Prelude.{Option, Some, None}
use Prim.Native.Nat.{ℕ, zero, suc, ◌+◌, ◌-◌, ◌<◌, ◌≤◌}
use mathlib.Core.Bool.{Bool, true, false, cond, ◌&&◌}
use mathlib.Core.List.{List, [], ◌∷◌, ◌++◌, map}
use mathlib.Core.Logic.{inl, inr}
use mathlib.Core.Path.{◌≡◌, refl, sym, ap, ◌∙◌}
use native.Mathlib.Nat.{add-zero}
use native.Mathlib.Numerals.{add-one}
use native.Mathlib.Omega.{arith}
use lib.Dec.{leb}
use lib.ListN.{length, get_or, length-append}
use lib.Seq.{get_or-append-add}
use borrow.Author.Tests.{ltb-false}
use Rattle.mir.specs.declared.config.Settings.{Settings}
use Rattle.mir.specs.Records.{is_gen, records, record_at}
use Rattle.mir.specs.Renaming.{one, gens, statics_to, regs_to}
use Rattle.mir.specs.Shapes.{shape_for, dests, sources}
use Rattle.mir.proofs.Passing.{ListPasses}
use Rattle.passes.specs.Color.{Coloring, Setup, setup, colour_at, colour_of, source_word, held_by, want_x, want_y, wanted, update_allocs, loc_of}
use Rattle.passes.specs.Color.{is_found, choice_for, after_dest, sources_at, dests_at, found_all, found_at, color_step, color_to, fullest_at}
use Rattle.passes.specs.Create.{ends_of}
use Rattle.theorems.proofs.Create.{In, names_to, ends_length, ends_below, statics_mono, ends_count}
use Rattle.theorems.proofs.Due.{due}
use Rattle.theorems.proofs.NeverEmpty.{source_below, ready_to, choices_of, wanted_words}
use Rattle.theorems.proofs.Pool.{words}
use Rattle.mir.specs.Answers.{over}
use Rattle.coloring.specs.Walk.{slices_at}
use Rattle.coloring.specs.Coloring.{Slices, dest_steps, most_needed, Ready, Coloured, source_words, wanted_by, record_step, was_found, founds_for, founds_to, marked}
use Rattle.mir.proofs.Over.{over_get}
use Rattle.coloring.proofs.Dests.{slices_same, marked_length, marked_at, mark_shows, dests_at_lem, most_at, ready_at}

-- as many flags as statics
founds_for_length : (n i : ℕ) (E : List ℕ) (ds : List (ℕ × Option Loc)) (st : Coloring) → length (founds_for n i E ds st) ≡ gens (words ds)
unfolding founds_for gens words
founds_for_length n i E [] st = refl
founds_for_length n i E (d ∷ ds) st =
    length-append (cond (is_gen d.0) (is_found (choice_for n i d.1 st) ∷ []) []) (founds_for n i E ds (after_dest n i E d.0 d.1 st))
    ∙ (ap (λ k. k + length (founds_for n i E ds (after_dest n i E d.0 d.1 st))) (go (is_gen d.0))
    ∙ ap (λ k. one d.0 + k) (founds_for_length n i E ds (after_dest n i E d.0 d.1 st)))
  where
    go : (b : Bool) → length (cond b (is_found (choice_for n i d.1 st) ∷ []) []) ≡ cond b 1 0
    go true = refl
    go false = refl

-- sources in colours: only those of the statics that the registers hold count
module _ (regs : List (Option ℕ)) (cs ds : List ℕ) (h : (w t : ℕ) → get_or regs w None ≡ Some t → get_or cs t 0 ≡ get_or ds t 0) where
  same_source : (w : ℕ) → source_word regs cs w ≡ source_word regs ds w
  same_source w = go (is_gen w) (get_or regs w None) refl
    where
      go : (b : Bool) (c : Option ℕ) → get_or regs w None ≡ c → cond b (colour_of c cs) w ≡ cond b (colour_of c ds) w
      go false c e = refl
      go true None e = refl
      go true (Some t) e = h w t e

  pub same_sources_in : (ws : List ℕ) → map (source_word regs cs) ws ≡ map (source_word regs ds) ws
  same_sources_in [] = refl
  same_sources_in (w ∷ ws) = ap (λ v. v ∷ map (source_word regs cs) ws) (same_source w) ∙ ap (λ r. source_word regs ds w ∷ r) (same_sources_in ws)

-- words that are changed: each is a named register's, or below n
map_below : (f : ℕ → ℕ) (n : ℕ) (ws : List ℕ) → ((w : ℕ) → is_gen w ≡ false → f w ≡ w) → ((w : ℕ) → In w ws → is_gen w ≡ true → f w < n) → Coloured n (map f ws)
map_below f n [] k h j z l = absurd (omega arith)
map_below f n (w ∷ ws) k h (suc j) z l = map_below f n ws k (λ v m. h v (inr m)) j (omega arith) l
map_below f n (w ∷ ws) k h zero z l = go (is_gen w) refl
  where
    go : (b : Bool) → is_gen w ≡ b → f w < n
    go true e = h w (inl refl) e
    go false e = absurd (omega (arith, k w e, ltb-false w 256 e, l))

-- ---- whether every destination was found, read off the marks

module _ (n i : ℕ) (E E0 : List ℕ) (fs : List Bool) (small : (k : ℕ) → k < length E → get_or E k 0 < 65536) where
  -- the flags that are marked agree from k on with m of others
  abbrev Agree : ℕ → List Bool → ℕ → Type 0
  Agree k gs m = (j : ℕ) → j < m → get_or fs (k + j) false ≡ get_or gs j false

  -- past a destination that is not Gen none counts
  flags_show : (ds : List (ℕ × Option Loc)) (st : Coloring) (k : ℕ) → k + gens (words ds) ≤ length E → Agree k (founds_for n i E ds st) (gens (words ds))
      → was_found (words ds) k (over (marked fs E) E0) ≡ found_all n i E ds st
  unfolding was_found found_all founds_for gens words
  flags_show [] st k h e = refl
  flags_show (d ∷ ds) st k h e = go (flags_show ds (after_dest n i E d.0 d.1 st) (k + 1)) (is_gen d.0) h e
    where
      after : Coloring
      after = after_dest n i E d.0 d.1 st

      found : Bool
      found = is_found (choice_for n i d.1 st)

      shift : (j : ℕ) → k + 1 + j ≡ k + suc j
      shift j = omega arith

      go : (k + 1 + gens (words ds) ≤ length E → Agree (k + 1) (founds_for n i E ds after) (gens (words ds)) → was_found (words ds) (k + 1) (over (marked fs E) E0) ≡ found_all n i E ds after)
          → (b : Bool) → k + (cond b 1 0 + gens (words ds)) ≤ length E → Agree k (cond b (found ∷ []) [] ++ founds_for n i E ds after) (cond b 1 0 + gens (words ds))
          → (b && leb 65536 (get_or (over (marked fs E) E0) k 0) && was_found (words ds) (k + cond b 1 0) (over (marked fs E) E0)) ≡ (b && found && found_all n i E ds after)
      go up false l a = refl
      go up true l a =
          let q : k < length E = omega arith in
          let x : get_or fs k false ≡ found = rw (add-zero k) at (a 0 (omega arith)) in
          let rest = up (omega arith) (λ j z. rw (shift j) (a (suc j) (omega arith))) in
          rw (over_get (marked fs E) E0 k 0 (rw (marked_length fs E) q), marked_at fs E k q, x, mark_shows (get_or E k 0) found (small k q), rest) refl

-- ---- a record of a list that passes

module _ (s : Settings) (list table : List ℕ) (passes : ListPasses s list table) (C0 E0 : List ℕ) (wide : length (ends_of list) ≤ length C0) where
  abbrev u : Setup
  u = setup s list table

  pub small : (k : ℕ) → k < length (ends_of list) → get_or (ends_of list) k 0 < 65536
  unfolding ends_of
  small k h = omega (arith, ends_below list (records list) k (rw (ends_length list (records list)) at h), passes.sized.small)

  pub founds_length : (i : ℕ) → length (founds_to u i) ≡ statics_to list i
  unfolding founds_to statics_to
  founds_length zero = refl
  founds_length (suc i) =
      let st = color_to u i in
      let ds = dests_at u i st in
      length-append (founds_to u i) _
      ∙ (ap (λ k. k + length (founds_for s.count_regs i (ends_of list) ds st)) (founds_length i)
      ∙ ap (λ k. statics_to list i + k) (founds_for_length s.count_regs i (ends_of list) ds st ∙ ap gens (wanted_words (dests (record_at list i)) _ _)))

  module _ (i : ℕ) (l : i < records list) where
    -- the record, the definitions' state before it, and what its destinations are wanted with there
    abbrev rec : List ℕ
    rec = record_at list i

    abbrev st : Coloring
    st = color_to u i

    abbrev ds : List (ℕ × Option Loc)
    ds = dests_at u i st

    -- the lent slices, and the sources' colours read off them
    abbrev σ : Slices
    σ = slices_at s list table C0 E0 i

    abbrev srcs : List ℕ
    srcs = source_words (regs_to list i) (over st.colours C0) rec

    colours_length : length st.colours ≡ statics_to list i
    colours_length = (ready_to s list table passes i (omega arith)).next

    -- the record's statics are among all
    pub room : statics_to list i + gens (dests (record_at list i)) ≤ length (ends_of list)
    unfolding statics_to
    room =
        let e : (records list - suc i) + suc i ≡ records list = omega arith in
        let m = statics_mono list (records list - suc i) (suc i) in
        rw (ends_count list) (rw e at m)

    -- the sources' colours
    pub same_sources : srcs ≡ sources_at u i st
    same_sources =
        same_sources_in (regs_to list i) (over st.colours C0) st.colours
        (λ w t e. over_get st.colours C0 t 0 (rw colours_length ((names_to list i).below w t e))) (sources rec)

    pub sources_fit : Coloured s.count_regs srcs
    sources_fit =
        rw same_sources
        (map_below (source_word (regs_to list i) st.colours) s.count_regs (sources rec) (λ w e. rw e) (source_below s list table passes i l))

    -- a colour whose life ends here is one of them
    pub sources_due : (c : ℕ) → c < s.count_regs → i - 1 < (colour_at st.allocs c).life → (colour_at st.allocs c).life ≤ i → In c srcs
    sources_due = rw same_sources (due s list table passes i l)

    -- what the destinations are wanted with
    same_wanted : wanted_by (regs_to list i) rec σ ≡ ds
    same_wanted =
        ap (λ ws. wanted (dests rec) (want_x (shape_for rec).action (loc_of rec) (held_by st.allocs (get_or ws 0 0))) (want_y (shape_for rec).action (loc_of rec)))
        same_sources

    words_room : statics_to list i + gens (words ds) ≤ length (ends_of list)
    words_room = rw (wanted_words (dests rec) _ _) room

    pub record_ready : Ready s.count_regs i (statics_to list i) (wanted_by (regs_to list i) rec σ) σ
    record_ready =
        rw same_wanted
        (ready_at s.count_regs i (ends_of list) C0 E0 wide small ds st (founds_to u i) (statics_to list i) (sym colours_length) (sym (founds_length i))
        words_room (choices_of s list table passes i l).pools)

    pub record_step_lem : record_step s.count_regs i (statics_to list i) (regs_to list i) rec σ ≡ slices_at s list table C0 E0 (i + 1)
    unfolding record_step color_to color_step founds_to
    record_step_lem =
        let n = s.count_regs in
        let made = statics_to list i in
        let given = dest_steps n i made (wanted_by (regs_to list i) rec σ) σ in
        let d = ap (λ ws. dest_steps n i made ws σ) same_wanted
        ∙ dests_at_lem n i (ends_of list) C0 E0 wide small ds st (founds_to u i) made (sym colours_length) (sym (founds_length i)) words_room in
        rw (add-one i)
        (slices_same (slices_at s list table C0 E0 (suc i))
        (ap (λ ws. update_allocs (shape_for rec).action (loc_of rec) (get_or ws 0 0) (get_or ws 1 0) given.allocs) same_sources
        ∙ ap (λ (τ : Slices). update_allocs (shape_for rec).action (loc_of rec) (get_or (sources_at u i st) 0 0) (get_or (sources_at u i st) 1 0) τ.allocs) d)
        (ap (λ (τ : Slices). τ.colours) d) (ap (λ (τ : Slices). τ.ends) d))

    pub record_most : most_needed s.count_regs i (statics_to list i) (wanted_by (regs_to list i) rec σ) σ ≡ fullest_at u i
    record_most =
        ap (λ ws. most_needed s.count_regs i (statics_to list i) ws σ) same_wanted
        ∙ most_at s.count_regs i (ends_of list) C0 E0 wide small ds st (founds_to u i) (statics_to list i) (sym colours_length) (sym (founds_length i)) words_room

    -- with any flags that agree with the walk's where the record's statics stand
    pub found_flags : (fs : List Bool)
        → ((j : ℕ) → j < gens (dests rec) → get_or fs (statics_to list i + j) false ≡ get_or (founds_to u (suc i)) (statics_to list i + j) false)
        → was_found (dests rec) (statics_to list i) (over (marked fs (ends_of list)) E0) ≡ found_at u i st
    unfolding founds_to
    found_flags fs e =
        ap (λ ws. was_found ws (statics_to list i) (over (marked fs (ends_of list)) E0)) (sym (wanted_words (dests rec) _ _))
        ∙ flags_show s.count_regs i (ends_of list) E0 fs small ds st (statics_to list i) words_room
        (λ j z. e j (rw (wanted_words (dests rec)) at z) ∙ rw (← (founds_length i)) (get_or-append-add (founds_to u i) _ j false))

    pub found_after : was_found (dests rec) (statics_to list i) (slices_at s list table C0 E0 (i + 1)).ends ≡ found_at u i st
    found_after = rw (add-one i) (found_flags (founds_to u (suc i)) (λ j z. refl))
