-- The reduced list again passes questions 5, 6 and 7: every coloured word is one of the colours or a named register, and
-- everything else of a record stays.
-- A coloured record is the record with its register words replaced; where they stand a field may be any register.
use Rattle.passes.specs.declared.symbol.Loc.{Loc}
use Rattle.std.specs.Prelude.{Option}
use Prim.Native.Nat.{ℕ, zero, suc, ◌+◌, ◌-◌, ◌*◌, ◌≤◌, ◌<◌}
use mathlib.Core.Bool.{Bool, true, false, cond, ◌&&◌}
use mathlib.Core.List.{List, [], ◌∷◌, ◌++◌, map, append_assoc, append-nil}
use mathlib.Core.Logic.{◌⊎◌, inl, inr, ⊎_elim}
use mathlib.Core.Path.{◌≡◌, refl, sym, ap, subst, ◌∙◌}
use native.Mathlib.Decide.{dec_lt, dec_le}
use native.Mathlib.Omega.{arith}
use lib.Dec.{eqb, leb}
use lib.ListN.{length, get_or, take, drop, length-append, get_or-append}
use borrow.Author.Tests.{le-leb, leb-true, eqb-true}
use lib.Seq.{length-take-le, take_at, drop_at, get_or-take, get_or-drop, get_or-append-add}
use Rattle.mir.specs.declared.config.Settings.{Settings}
use Rattle.mir.specs.declared.shape.Shape.{Shape}
use Rattle.std.specs.List.{list_all}
use Rattle.mir.specs.Folds.{all_below}
use Rattle.mir.specs.Questions.{word_fits, words_fit, pairs_fit, fields_fit, gen_fits, known_kind, gens_fit, shape_no}
use Rattle.mir.specs.Renaming.{regs_to}
use Rattle.mir.specs.Records.{records, record_at, word_at, is_gen, max_regs, fixed_mark}
use Rattle.mir.specs.Shapes.{reg, load_args, shape_of, shape_for, dests, sources, registers}
use Rattle.mir.proofs.Folds.{all_each, all_append, all_words, below_suc}
use Rattle.mir.proofs.Passing.{ListPasses, list_passes, word_fits_lem}
use Rattle.mir.proofs.Renaming.{and_both}
use Rattle.mir.proofs.Shapes.{regs_in_record, regs_after_kind, register_limit, args_bare}
use Rattle.passes.specs.declared.alloc.Alloc.{Alloc}
use Rattle.passes.specs.declared.alloc.Choice.{Choice}
use Rattle.passes.specs.declared.alloc.Choice.TheVariants.{Found, Free, Empty}
use Rattle.passes.specs.declared.alloc.Outcome.TheVariants.{Kept}
use Rattle.passes.specs.Color.{Setup, setup, Coloring, choose, chosen, after_dest, word_for, words_for, source_word, sources_at, dests_at}
use Rattle.passes.specs.Color.{colored, color_to}
use Rattle.passes.specs.Contract.{out_at, outcome_at, is_kept, reduced_to, reduced, count_to}
use Rattle.passes.specs.Create.{ends_of}
use Rattle.passes.specs.Machine.{Passing}
use Rattle.theorems.proofs.Choice.{choose_free, choose_found}
use Rattle.theorems.proofs.Create.{In, all_in}
use Rattle.theorems.proofs.Lengths.{dest_words_length, source_words_length, out_length, kept_next, reduced_length}
use Rattle.theorems.proofs.Pool.{words, colour_fits}
use Rattle.theorems.proofs.NeverEmpty.{choices_of, wanted_words, source_below}
use Rattle.theorems.proofs.Rows.{record_length, record_early, record_new}

-- ---- a list with its middle replaced: a words from place r on

module _ (l ws : List ℕ) (r a : ℕ) (inside : r + a ≤ length l) (len : length ws ≡ a) where
  abbrev spliced : List ℕ
  spliced = take r l ++ (ws ++ drop (r + a) l)

  head_length : length (take r l) ≡ r
  head_length = length-take-le r l (omega arith)

  pub splice_middle : take a (drop r spliced) ≡ ws
  splice_middle = rw (drop_at (take r l) (ws ++ drop (r + a) l) r head_length) (take_at ws (drop (r + a) l) a len)

  pub splice_before : (p : ℕ) → p < r → get_or spliced p 0 ≡ get_or l p 0
  splice_before p h =
      get_or-append (take r l) (ws ++ drop (r + a) l) 0 p (omega (arith, head_length)) ∙ get_or-take r l p 0 h

  pub splice_after : (p : ℕ) → r + a ≤ p → get_or spliced p 0 ≡ get_or l p 0
  splice_after p h =
      let q : p ≡ length (take r l) + (length ws + (p - (r + a))) = omega (arith, head_length, len) in
      let k : r + a + (p - (r + a)) ≡ p = omega arith in
      subst (λ (x : ℕ). get_or spliced x 0 ≡ get_or l p 0) (sym q)
      (get_or-append-add (take r l) (ws ++ drop (r + a) l) (length ws + (p - (r + a))) 0
      ∙ (get_or-append-add ws (drop (r + a) l) (p - (r + a)) 0 ∙ (get_or-drop (r + a) l (p - (r + a)) 0 ∙ ap (λ (x : ℕ). get_or l x 0) k)))

  pub splice_within : (p : ℕ) → r ≤ p → p < r + a → get_or spliced p 0 ≡ get_or ws (p - r) 0
  splice_within p h k =
      let q : p ≡ length (take r l) + (p - r) = omega (arith, head_length) in
      subst (λ (x : ℕ). get_or spliced x 0 ≡ get_or ws (p - r) 0) (sym q)
      (get_or-append-add (take r l) (ws ++ drop (r + a) l) (p - r) 0 ∙ get_or-append ws (drop (r + a) l) 0 (p - r) (omega arith))

-- ---- the words that colouring puts in

-- no register word is above 259
Limited : List ℕ → Type 0
Limited ws = list_all (λ w. leb w reg) ws ≡ true

chosen_limited : (n i : ℕ) (h : Option Loc) (allocs : List Alloc) → n ≤ max_regs → leb (chosen (choose n i h allocs)) reg ≡ true
chosen_limited n i h allocs few = go (choose n i h allocs) refl
  where
    go : (k : Choice) → choose n i h allocs ≡ k → leb (chosen k) reg ≡ true
    go (Found c) e = le-leb c reg (omega (arith, (choose_found n i allocs h c e).0))
    go (Free c) e = le-leb c reg (omega (arith, (choose_free n i allocs h c e).0))
    go Empty e = refl

words_limited : (n i : ℕ) (E : List ℕ) → n ≤ max_regs → (ds : List (ℕ × Option Loc)) (st : Coloring) → Limited (words ds) → Limited (words_for n i E ds st)
unfolding Limited words words_for word_for
words_limited n i E few [] st h = refl
words_limited n i E few (d ∷ ds) st h =
    let b = and_both (leb d.0 reg) (list_all (λ w. leb w reg) (words ds)) h in
    rw (words_limited n i E few ds (after_dest n i E d.0 d.1 st) b.1) (go (is_gen d.0) b.0)
  where
    go : (b : Bool) → leb d.0 reg ≡ true → (leb (cond b (chosen (choose n i d.1 st.allocs)) d.0) reg && true) ≡ true
    go true q = rw (chosen_limited n i d.1 st.allocs few)
    go false q = rw q

all_map : (p : ℕ → Bool) (f : ℕ → ℕ) (ws : List ℕ) → ((w : ℕ) → In w ws → p (f w) ≡ true) → list_all p (map f ws) ≡ true
all_map p f [] h = refl
all_map p f (w ∷ ws) h = rw (h w (inl refl), all_map p f ws (λ v m. h v (inr m)))

all_at_place : (p : ℕ → Bool) (ws : List ℕ) (j : ℕ) → list_all p ws ≡ true → j < length ws → p (get_or ws j 0) ≡ true
all_at_place p [] j h l = absurd (omega arith)
all_at_place p (w ∷ ws) zero h l = (and_both (p w) (list_all p ws) h).0
all_at_place p (w ∷ ws) (suc j) h l = all_at_place p ws j (and_both (p w) (list_all p ws) h).1 (omega arith)

-- ---- one record

module _ (s : Settings) (list table : List ℕ) (passes : ListPasses s list table) (i : ℕ) (inside : i < records list) where
  abbrev u : Setup
  u = setup s list table

  abbrev st : Coloring
  st = color_to u i

  abbrev rec : List ℕ
  rec = record_at list i

  abbrev shape : Shape
  shape = shape_for rec

  abbrev ws : List ℕ
  ws = words_for s.count_regs i (ends_of list) (dests_at u i st) st

  abbrev ss : List ℕ
  ss = sources_at u i st

  len : length rec ≡ 8
  len = record_length list i inside

  mid_length : length (ws ++ ss) ≡ shape.dsts + shape.srcs
  mid_length = length-append ws ss ∙ rw (dest_words_length u i inside st, source_words_length u i inside st)

  out_spliced : out_at u i ≡ take shape.regs rec ++ ((ws ++ ss) ++ drop (shape.regs + (shape.dsts + shape.srcs)) rec)
  unfolding out_at colored
  out_spliced = ap (λ (l : List ℕ). take shape.regs rec ++ l) (sym (append_assoc ws ss (drop (shape.regs + (shape.dsts + shape.srcs)) rec)))

  room : shape.regs + (shape.dsts + shape.srcs) ≤ length rec
  room = rw len (regs_in_record (word_at rec 0))

  -- the kind stays, and with it the shape
  pub same_kind : word_at (out_at u i) 0 ≡ word_at rec 0
  same_kind = rw out_spliced (go (dec_lt 0 shape.regs))
    where
      go : Dec (0 < shape.regs) → get_or (take shape.regs rec ++ ((ws ++ ss) ++ drop (shape.regs + (shape.dsts + shape.srcs)) rec)) 0 0 ≡ get_or rec 0 0
      go (yes h) = splice_before rec (ws ++ ss) shape.regs (shape.dsts + shape.srcs) room mid_length 0 h
      go (no h) = splice_after rec (ws ++ ss) shape.regs (shape.dsts + shape.srcs) room mid_length 0 (omega (arith, h, regs_after_kind (word_at rec 0)))

  same_shape : shape_for (out_at u i) ≡ shape
  same_shape = ap shape_of same_kind

  out_registers : registers (out_at u i) ≡ ws ++ ss
  unfolding registers
  out_registers = rw (same_shape, out_spliced) (splice_middle rec (ws ++ ss) shape.regs (shape.dsts + shape.srcs) room mid_length)

  -- each register word of the record is at most 259
  register_fits : (p : ℕ) → shape.regs ≤ p → p < shape.regs + (shape.dsts + shape.srcs) → get_or rec p 0 ≤ reg
  register_fits p h l =
      let f = word_fits_lem table rec (passes.each i inside).shape.fields p (omega (arith, regs_in_record (word_at rec 0))) in
      leb-true (get_or rec p 0) reg (rw (register_limit (word_at rec 0) p h l) at f)

  limited_from : (from count : ℕ) → shape.regs ≤ from → from + count ≤ shape.regs + (shape.dsts + shape.srcs) → Limited (take count (drop from rec))
  unfolding Limited
  limited_from from count h l =
      all_words (λ w. leb w reg) rec from count (omega (arith, room))
      ∙ all_each (λ j. leb (get_or rec (from + j) 0) reg) count (λ j k. le-leb _ reg (register_fits (from + j) (omega arith) (omega arith)))

  dests_limited : Limited (dests rec)
  unfolding dests
  dests_limited = limited_from shape.regs shape.dsts (omega arith) (omega arith)

  sources_limited : Limited (sources rec)
  unfolding sources
  sources_limited = limited_from (shape.regs + shape.dsts) shape.srcs (omega arith) (omega arith)

  -- the new words fit: a colour is below the count, and a named register is as it was
  words_fit_lem : list_all (gen_fits s.count_regs) (ws ++ ss) ≡ true
  words_fit_lem = all_append (gen_fits s.count_regs) ws ss ∙ rw ((choices_of s list table passes i inside).fit, all_map (gen_fits s.count_regs) _ (sources rec) source_fits)
    where
      source_fits : (w : ℕ) → In w (sources rec) → gen_fits s.count_regs (source_word (regs_to list i) st.colours w) ≡ true
      source_fits w m = go (is_gen w) refl
        where
          go : (b : Bool) → is_gen w ≡ b → gen_fits s.count_regs (source_word (regs_to list i) st.colours w) ≡ true
          go true e = colour_fits s.count_regs _ (source_below s list table passes i inside w m e)
          go false e =
              let q : source_word (regs_to list i) st.colours w ≡ w = rw e in
              rw (q, e)

  words_are_limited : Limited (ws ++ ss)
  unfolding Limited
  words_are_limited =
      all_append (λ w. leb w reg) ws ss
      ∙ rw (words_limited s.count_regs i (ends_of list) passes.few (dests_at u i st) st (rw wanted_words dests_limited), all_map (λ w. leb w reg) _ (sources rec) limited)
    where
      limited : (w : ℕ) → In w (sources rec) → leb (source_word (regs_to list i) st.colours w) reg ≡ true
      limited w m = go (is_gen w) refl
        where
          go : (b : Bool) → is_gen w ≡ b → leb (source_word (regs_to list i) st.colours w) reg ≡ true
          go true e = le-leb (source_word (regs_to list i) st.colours w) reg (omega (arith, source_below s list table passes i inside w m e, passes.few))
          go false e = rw e (all_in (λ v. leb v reg) (sources rec) w sources_limited m)

  -- ---- questions 5, 6 and 7 of the coloured record
  out_kind : known_kind (out_at u i) ≡ true
  unfolding known_kind
  out_kind = rw same_kind (passes.each i inside).shape.kind

  out_gens : gens_fit s.count_regs (out_at u i) ≡ true
  unfolding gens_fit
  out_gens = rw out_registers words_fit_lem

  -- outside the register words nothing changed
  pub same_word : (p : ℕ) → (p < shape.regs) ⊎ (shape.regs + (shape.dsts + shape.srcs) ≤ p) → word_at (out_at u i) p ≡ word_at rec p
  same_word p h =
      rw out_spliced
      (⊎_elim (splice_before rec (ws ++ ss) shape.regs (shape.dsts + shape.srcs) room mid_length p)
      (splice_after rec (ws ++ ss) shape.regs (shape.dsts + shape.srcs) room mid_length p) h)

  out_word : (p : ℕ) → p < 8 → leb (word_at (out_at u i) p) (get_or shape.most p 0) ≡ true
  unfolding Limited
  out_word p l = go (dec_lt p shape.regs) (dec_le (shape.regs + (shape.dsts + shape.srcs)) p)
    where
      old : leb (word_at rec p) (get_or shape.most p 0) ≡ true
      old = word_fits_lem table rec (passes.each i inside).shape.fields p l

      go : Dec (p < shape.regs) → Dec (shape.regs + (shape.dsts + shape.srcs) ≤ p) → leb (word_at (out_at u i) p) (get_or shape.most p 0) ≡ true
      go (yes a) b = rw (same_word p (inl a)) old
      go (no a) (yes b) = rw (same_word p (inr b)) old
      go (no a) (no b) =
          let q : shape.regs ≤ p = omega (arith, a) in
          let k : p < shape.regs + (shape.dsts + shape.srcs) = omega (arith, b) in
          rw (out_spliced, splice_within rec (ws ++ ss) shape.regs (shape.dsts + shape.srcs) room mid_length p q k, register_limit (word_at rec 0) p q k)
          (all_at_place (λ w. leb w reg) (ws ++ ss) (p - shape.regs) words_are_limited (omega (arith, mid_length)))

  -- LoadArgs has no registers, so it names the pairs that it named
  out_fields : fields_fit table (out_at u i) ≡ true
  unfolding fields_fit words_fit
  out_fields =
      let old = (and_both (all_below 8 (word_fits rec shape.most)) _ (passes.each i inside).shape.fields).1 in
      rw (same_shape, all_each (word_fits (out_at u i) shape.most) 8 out_word) (go (eqb (word_at rec 0) load_args) refl old)
    where
      bare_args : eqb (word_at rec 0) load_args ≡ true → shape.regs + (shape.dsts + shape.srcs) ≡ 0
      bare_args e = rw (eqb-true (word_at rec 0) load_args e) args_bare

      go : (b : Bool) → eqb (word_at rec 0) load_args ≡ b → cond b (pairs_fit table (word_at rec 1) (word_at rec 2)) true ≡ true
          → cond (eqb (word_at (out_at u i) 0) load_args) (pairs_fit table (word_at (out_at u i) 1) (word_at (out_at u i) 2)) true ≡ true
      go true e q =
          let z = bare_args e in
          rw (same_kind, e, same_word 1 (inr (omega (arith, z))), same_word 2 (inr (omega (arith, z)))) q
      go false e q = rw (same_kind, e)

  pub out_passes : shape_no table s.count_regs (out_at u i) ≡ 0
  unfolding shape_no
  out_passes = rw (out_kind, out_fields, out_gens)

-- ---- the whole list

-- what holds of each record that is put out holds of each record of the reduced list
module _ (s : Settings) (list table : List ℕ) (P : List ℕ → Type 0) (each : (i : ℕ) → i < records list → P (out_at (setup s list table) i)) where
  holds_to : (i : ℕ) → i ≤ records list → (k : ℕ) → k < count_to Kept (fixed_mark s) (setup s list table) i
      → P (record_at (reduced_to (fixed_mark s) (setup s list table) i) k)
  unfolding reduced_to count_to
  holds_to zero h k l = absurd (omega arith)
  holds_to (suc i) h k l = go (is_kept (outcome_at (fixed_mark s) u i)) (rw (kept_next (fixed_mark s) u i) at l) (holds_to i (omega arith) k)
    where
      u : Setup
      u = setup s list table

      xs : List ℕ
      xs = reduced_to (fixed_mark s) u i

      c : ℕ
      c = count_to Kept (fixed_mark s) u i

      len : length xs ≡ c * 8
      len = reduced_length (fixed_mark s) u i (omega arith)

      go : (b : Bool) → k < c + cond b 1 0 → (k < c → P (record_at xs k)) → P (record_at (xs ++ cond b (out_at u i) []) k)
      go false q up = rw (append-nil xs) (up (omega arith))
      go true q up =
          ⊎_elim (λ (p : k < c). rw (record_early xs (out_at u i) k (omega (arith, len))) (up p))
          (λ (p : k ≡ c). rw (p, record_new xs (out_at u i) c len (out_length u i (omega arith))) (each i (omega arith)))
          (below_suc (one_more q))
        where
          one_more : k < c + 1 → k < suc c
          one_more z = omega arith

  pub reduced_holds : (k : ℕ) → k < records (reduced s list table) → P (record_at (reduced s list table) k)
  unfolding reduced
  reduced_holds k l =
      holds_to (records list) (omega arith) k (omega (arith, reduced_length (fixed_mark s) (setup s list table) (records list) (omega arith)))

-- the reduced list passes questions 5, 6 and 7
pub reduced_passes : (s : Settings) (list table : List ℕ) → Passing s list table → (k : ℕ) → k < records (reduced s list table)
    → shape_no table s.count_regs (record_at (reduced s list table) k) ≡ 0
unfolding Passing
reduced_passes s list table passing =
    reduced_holds s list table (λ (rec : List ℕ). shape_no table s.count_regs rec ≡ 0) (out_passes s list table (list_passes true s list table passing))
