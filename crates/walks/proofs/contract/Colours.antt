-- Colours and flags are given once: those of earlier statics stand at the start of those of later records, so that the last
-- walk may read a record's colours off the lent slice.
-- A list that is only added to at its end keeps each of its elements.
use Rattle.passes.specs.declared.symbol.Loc.{Loc}
use Rattle.std.specs.Prelude.{Option}
use Prim.Native.Nat.{ℕ, zero, suc, ◌+◌, ◌-◌, ◌<◌, ◌≤◌}
use mathlib.Core.Bool.{Bool, true, false, cond}
use mathlib.Core.List.{List, [], ◌∷◌, ◌++◌, append-nil, append_assoc}
use mathlib.Core.Path.{◌≡◌, refl, sym, ap, subst, ◌∙◌}
use native.Mathlib.Nat.{add-zero, zero-add, suc-add}
use native.Mathlib.Omega.{arith}
use lib.ListN.{length, get_or, length-append, get_or-append}
use lib.Seq.{get_or_at}
use Rattle.mir.specs.declared.config.Settings.{Settings}
use Rattle.mir.specs.Records.{is_gen, records, record_at}
use Rattle.mir.specs.Renaming.{statics_to, regs_to}
use Rattle.mir.specs.Shapes.{dests, sources}
use Rattle.mir.proofs.Passing.{ListPasses}
use Rattle.passes.specs.Color.{Coloring, Setup, setup, choice_for, chosen, assign, after_dest, after_dests, word_for, words_for, sources_at, dests_at, colored, color_step, color_to}
use Rattle.passes.specs.Contract.{out_at, colours_of}
use Rattle.passes.specs.Create.{ends_of}
use Rattle.theorems.proofs.Create.{names_to}
use Rattle.theorems.proofs.NeverEmpty.{ready_to, wanted_words}
use Rattle.theorems.proofs.Pool.{words}
use Rattle.mir.specs.Answers.{over}
use Rattle.coloring.specs.Coloring.{source_words, founds_for, founds_to}
use Rattle.walks.specs.Walks.{dest_words, rewritten}
use Rattle.mir.proofs.Over.{over_get}
use Rattle.coloring.proofs.Record.{same_sources_in}

-- ---- lists that grow

pub record Grows {ℓ} {A : Type ℓ} (xs ys : List A) : Type ℓ where
  pub more : List A
  pub is : ys ≡ xs ++ more

grows_same {ℓ} : {A : Type ℓ} (xs : List A) → Grows xs xs
grows_same xs = record { more = []; is = sym (append-nil xs) }

grows_by {ℓ} : {A : Type ℓ} (xs zs : List A) → Grows xs (xs ++ zs)
grows_by xs zs = record { more = zs; is = refl }

grows_more {ℓ} : {A : Type ℓ} {xs ys zs : List A} → Grows xs ys → Grows ys zs → Grows xs zs
grows_more {xs = xs} g h =
    record { more = g.more ++ h.more; is = h.is ∙ (ap (λ l. l ++ h.more) g.is ∙ append_assoc xs g.more h.more) }

pub grows_get {ℓ} : {A : Type ℓ} {xs ys : List A} (d : A) (k : ℕ) → Grows xs ys → k < length xs → get_or ys k d ≡ get_or xs k d
grows_get {xs = xs} d k g h = ap (λ l. get_or l k d) g.is ∙ get_or-append xs g.more d k h

pub grows_length {ℓ} : {A : Type ℓ} {xs ys : List A} → Grows xs ys → length xs ≤ length ys
grows_length {xs = xs} g = rw g.is (omega (arith, length-append xs g.more))

-- ---- colours

-- a slice has these colours, static by static
abbrev Gives : List ℕ → List ℕ → Type 0
Gives cs colours = (k : ℕ) → k < length colours → get_or cs k 0 ≡ get_or colours k 0

module _ (n i : ℕ) (E : List ℕ) where
  dest_grows : (w : ℕ) (held : Option Loc) (st : Coloring) → Grows st.colours (after_dest n i E w held st).colours
  unfolding after_dest
  dest_grows w held st = go (is_gen w)
    where
      c : ℕ
      c = chosen (choice_for n i held st)

      new : Coloring
      new = record { allocs = assign st.allocs c (get_or E (length st.colours) 0) held; colours = st.colours ++ c ∷ []; members = st.members }

      go : (b : Bool) → Grows st.colours (cond b new st).colours
      go true = grows_by st.colours (c ∷ [])
      go false = grows_same st.colours

  pub dests_grow : (ds : List (ℕ × Option Loc)) (st : Coloring) → Grows st.colours (after_dests n i E ds st).colours
  unfolding after_dests
  dests_grow [] st = grows_same st.colours
  dests_grow (d ∷ ds) st = grows_more (dest_grows d.0 d.1 st) (dests_grow ds (after_dest n i E d.0 d.1 st))

  -- the destinations' words, read off colours that have grown
  pub dest_words_lem : (ds : List (ℕ × Option Loc)) (st : Coloring) (cs : List ℕ) (next : ℕ) → next ≡ length st.colours → Gives cs (after_dests n i E ds st).colours
      → dest_words (words ds) next cs ≡ words_for n i E ds st
  unfolding dest_words words_for word_for after_dests after_dest words
  dest_words_lem [] st cs next e h = refl
  dest_words_lem (d ∷ ds) st cs next e h = go (λ t. dest_words_lem ds t cs) (is_gen d.0) h
    where
      c : ℕ
      c = chosen (choice_for n i d.1 st)

      new : Coloring
      new = record { allocs = assign st.allocs c (get_or E (length st.colours) 0) d.1; colours = st.colours ++ c ∷ []; members = st.members }

      go : ((t : Coloring) (m : ℕ) → m ≡ length t.colours → Gives cs (after_dests n i E ds t).colours → dest_words (words ds) m cs ≡ words_for n i E ds t)
          → (b : Bool) → Gives cs (after_dests n i E ds (cond b new st)).colours
          → cond b (get_or cs next 0) d.0 ∷ dest_words (words ds) (next + cond b 1 0) cs ≡ cond b c d.0 ∷ words_for n i E ds (cond b new st)
      go up false f = ap (λ r. d.0 ∷ r) (rw (add-zero next) (up st next e f))
      go up true f =
          let g = dests_grow ds new in
          let a : length st.colours < length new.colours = omega (arith, length-append st.colours (c ∷ [])) in
          let head : get_or cs next 0 ≡ c =
          rw e (f (length st.colours) (omega (arith, a, grows_length g)) ∙ (grows_get 0 (length st.colours) g a ∙ get_or_at st.colours c [] 0 (length st.colours) refl)) in
          rw head (ap (λ r. c ∷ r) (up new (next + 1) (rw (length-append st.colours (c ∷ [])) (ap (λ k. k + 1) e)) f))

-- ---- record by record

module _ (u : Setup) where
  step_grows : (i : ℕ) → Grows (color_to u i).colours (color_to u (suc i)).colours
  unfolding color_to color_step
  step_grows i = dests_grow u.count i u.ends (dests_at u i (color_to u i)) (color_to u i)

  pub colours_grow : (j i : ℕ) → Grows (color_to u i).colours (color_to u (j + i)).colours
  colours_grow zero i = rw (zero-add i) (grows_same (color_to u i).colours)
  colours_grow (suc j) i = rw (suc-add j i) (grows_more (colours_grow j i) (step_grows (j + i)))

  pub same_after : (i : ℕ) → (color_to u (suc i)).colours ≡ (after_dests u.count i u.ends (dests_at u i (color_to u i)) (color_to u i)).colours
  unfolding color_to color_step
  same_after i = refl

  flags_grow : (i : ℕ) → Grows (founds_to u i) (founds_to u (suc i))
  unfolding founds_to
  flags_grow i = grows_by (founds_to u i) (founds_for u.count i u.ends (dests_at u i (color_to u i)) (color_to u i))

  pub founds_grow : (j i : ℕ) → Grows (founds_to u i) (founds_to u (j + i))
  founds_grow zero i = rw (zero-add i) (grows_same (founds_to u i))
  founds_grow (suc j) i = rw (suc-add j i) (grows_more (founds_grow j i) (flags_grow (j + i)))

module _ (s : Settings) (list table : List ℕ) (passes : ListPasses s list table) (C : List ℕ) (i : ℕ) (l : i < records list) where
  abbrev u : Setup
  u = setup s list table

  abbrev st : Coloring
  st = color_to u i

  -- the lent slice, with the colours of all statics
  abbrev all : List ℕ
  all = over (colours_of s list table) C

  -- the colours of the statics up to a record, among all
  final : (j : ℕ) → j ≤ records list → Gives all (color_to u j).colours
  unfolding colours_of
  final j h k m =
      let e : (records list - j) + j ≡ records list = omega arith in
      let g = subst (λ n. Grows (color_to u j).colours (color_to u n).colours) e (colours_grow u (records list - j) j) in
      over_get (color_to u (records list)).colours C k 0 (omega (arith, m, grows_length g)) ∙ grows_get 0 k g m

  colours_length : length st.colours ≡ statics_to list i
  colours_length = (ready_to s list table passes i (omega arith)).next

  final_dests : dest_words (dests (record_at list i)) (statics_to list i) all ≡ words_for s.count_regs i (ends_of list) (dests_at u i st) st
  final_dests =
      subst (λ ws. dest_words ws (statics_to list i) all ≡ words_for s.count_regs i (ends_of list) (dests_at u i st) st)
      (wanted_words (dests (record_at list i)) _ _)
      (dest_words_lem s.count_regs i (ends_of list) (dests_at u i st) st all (statics_to list i) (sym colours_length)
      (subst (Gives all) (same_after u i) (final (suc i) l)))

  final_sources : source_words (regs_to list i) all (record_at list i) ≡ sources_at u i st
  final_sources =
      same_sources_in (regs_to list i) all st.colours
      (λ w t e. final i (omega arith) t (rw colours_length ((names_to list i).below w t e))) (sources (record_at list i))

  -- the record that the last walk writes
  pub rewritten_out : rewritten (regs_to list i) (statics_to list i) all (record_at list i) ≡ out_at u i
  unfolding rewritten out_at colored
  rewritten_out = rw (final_dests, final_sources) refl
