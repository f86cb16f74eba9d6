-- A record in colours has the kind that it had, and its location still has room for a partner.
-- Only register words change, and in kinds 7 and 8 they stand before the location's index.
use Rattle.std.specs.Prelude.{Option}
use Prim.Native.Nat.{ℕ, suc, ◌+◌, ◌<◌, ◌≤◌}
use mathlib.Core.Bool.{cond}
use mathlib.Core.List.{List, [], ◌∷◌, ◌++◌, map, append_assoc}
use mathlib.Core.Logic.{◌⊎◌, ⊎_elim}
use mathlib.Core.Path.{◌≡◌, refl, sym, ap, subst, ◌∙◌}
use native.Mathlib.Decide.{dec_lt}
use native.Mathlib.Omega.{arith}
use lib.ListN.{length, get_or, take, drop, length-append, length-map, length-take, get_or-append}
use lib.Seq.{get_or-append-add}
use Rattle.mir.specs.Records.{is_gen, word_at}
use Rattle.mir.specs.Renaming.{one}
use Rattle.mir.specs.Shapes.{shape_of, shape_for, dests, sources}
use Rattle.mir.proofs.Shapes.{regs_in_record, regs_after_kind, dests_are, sources_are}
use Rattle.passes.specs.Color.{loc_of, source_word}
use Rattle.theorems.proofs.Lengths.{dests_length, sources_length}
use Rattle.theorems.proofs.Reduced.{splice_before, splice_after}
use Rattle.coloring.specs.Coloring.{source_words}
use Rattle.walks.specs.Walks.{dest_words, rewritten}

pub dest_words_length : (ws : List ℕ) (n : ℕ) (cs : List ℕ) → length (dest_words ws n cs) ≡ length ws
unfolding dest_words
dest_words_length [] n cs = refl
dest_words_length (w ∷ ws) n cs = ap suc (dest_words_length ws (n + one w) cs)

module _ (regs : List (Option ℕ)) (n : ℕ) (cs rec : List ℕ) (len : length rec ≡ 8) where
  abbrev ws : List ℕ
  ws = dest_words (dests rec) n cs ++ source_words regs cs rec

  abbrev r : ℕ
  r = (shape_for rec).regs

  abbrev a : ℕ
  a = (shape_for rec).dsts + (shape_for rec).srcs

  spliced : rewritten regs n cs rec ≡ take r rec ++ (ws ++ drop (r + a) rec)
  unfolding rewritten
  spliced = ap (λ l. take r rec ++ l) (sym (append_assoc (dest_words (dests rec) n cs) (source_words regs cs rec) (drop (r + a) rec)))

  mid : length ws ≡ a
  mid =
      omega (
        arith,
        length-append (dest_words (dests rec) n cs) (source_words regs cs rec),
        dest_words_length (dests rec) n cs,
        dests_length rec len,
        length-map (sources rec) (source_word regs cs),
        sources_length rec len,
      )

  room : r + a ≤ length rec
  room = rw len (regs_in_record (word_at rec 0))

  pub written_kind : word_at (rewritten regs n cs rec) 0 ≡ word_at rec 0
  written_kind = ap (λ l. word_at l 0) spliced ∙ go (dec_lt 0 r)
    where
      go : Dec (0 < r) → get_or (take r rec ++ (ws ++ drop (r + a) rec)) 0 0 ≡ get_or rec 0 0
      go (yes h) = splice_before rec ws r a room mid 0 h
      go (no h) = splice_after rec ws r a room mid 0 (omega (arith, h, regs_after_kind (word_at rec 0)))

  -- the words after the registers are as they were
  written_after : (p : ℕ) → r + a ≤ p → word_at (rewritten regs n cs rec) p ≡ word_at rec p
  written_after p h = ap (λ l. word_at l p) spliced ∙ splice_after rec ws r a room mid p h

  pub written_loc : r + a ≤ (shape_for rec).loc → loc_of (rewritten regs n cs rec) ≡ loc_of rec
  written_loc h =
      rw (written_kind, written_after (shape_for rec).loc h, written_after ((shape_for rec).loc + 1) (omega (arith, h))) refl

  -- what is saved goes where it went
  pub save_loc : (word_at rec 0 ≡ 6) ⊎ (word_at rec 0 ≡ 8) → loc_of (rewritten regs n cs rec) ≡ loc_of rec
  unfolding shape_of
  save_loc h =
      written_loc (⊎_elim (λ (e : word_at rec 0 ≡ 6). subst Room (sym e) (omega arith)) (λ (e : word_at rec 0 ≡ 8). subst Room (sym e) (omega arith)) h)
    where
      Room : ℕ → Type 0
      Room k = (shape_of k).regs + ((shape_of k).dsts + (shape_of k).srcs) ≤ (shape_of k).loc

  -- the register words are the words in colours
  written_at : (j : ℕ) → j < a → word_at (rewritten regs n cs rec) (r + j) ≡ get_or ws j 0
  written_at j h =
      let head : length (take r rec) ≡ r = omega (arith, length-take r rec, room) in
      ap (λ l. word_at l (r + j)) spliced
      ∙ (ap (λ k. get_or (take r rec ++ (ws ++ drop (r + a) rec)) (k + j) 0) (sym head)
      ∙ (get_or-append-add (take r rec) (ws ++ drop (r + a) rec) j 0 ∙ get_or-append ws (drop (r + a) rec) 0 j (omega (arith, mid, h))))

  -- those of a Mov
  pub written_mov : word_at rec 0 ≡ 4
      → (word_at (rewritten regs n cs rec) 1 ≡ cond (is_gen (word_at rec 1)) (get_or cs n 0) (word_at rec 1))
      × (word_at (rewritten regs n cs rec) 2 ≡ source_word regs cs (word_at rec 2))
  unfolding shape_of dest_words
  written_mov e =
      let d : dests rec ≡ word_at rec 1 ∷ [] = rw e at (dests_are rec (shape_for rec) refl len) in
      let s : sources rec ≡ word_at rec 2 ∷ [] = rw e at (sources_are rec (shape_for rec) refl len) in
      let both =
      ap (λ l. dest_words l n cs ++ source_words regs cs rec) d ∙ ap (λ l. dest_words (word_at rec 1 ∷ []) n cs ++ map (source_word regs cs) l) s in
      let two : 1 < a = rw e (omega arith) in
      let x = subst (λ k. word_at (rewritten regs n cs rec) ((shape_of k).regs + 0) ≡ get_or ws 0 0) e (written_at 0 (omega (arith, two))) in
      let y = subst (λ k. word_at (rewritten regs n cs rec) ((shape_of k).regs + 1) ≡ get_or ws 1 0) e (written_at 1 two) in
      (x ∙ ap (λ l. get_or l 0 0) both, y ∙ ap (λ l. get_or l 1 0) both)
