-- A record in colours: words written one after the other from a place on, destinations and then sources.
-- By `sets`, a run of stores, which is the words before the place, the run, and the words after it.
use Rattle.std.specs.Prelude.{Option}
use Prim.Native.Nat.{ℕ, suc, ◌+◌, ◌≤◌}
use mathlib.Core.List.{List, [], ◌∷◌, ◌++◌, map, append_assoc}
use mathlib.Core.Path.{◌≡◌, refl, sym, ap, ◌∙◌}
use native.Mathlib.Nat.{add-zero, add-suc, suc-add}
use native.Mathlib.Omega.{arith}
use lib.ListN.{length, get_or, set, take, drop, length-append, length-map}
use lib.Seq.{sets, sets-eq, length-sets, drop-drop, drop-set-lt}
use borrow.Rule.Slice.PartMut.{put_mid}
use Rattle.mir.specs.declared.shape.Dests.{Dests}
use Rattle.mir.specs.declared.shape.Shape.{Shape}
use Rattle.mir.specs.Inner.{listed}
use Rattle.mir.specs.Shapes.{shape_for, dests, sources}
use Rattle.mir.proofs.Shapes.{regs_in_record}
use Rattle.passes.specs.Color.{source_word}
use Rattle.coloring.specs.Coloring.{source_words}
use Rattle.walks.specs.Walks.{dest_words, rewritten}
use Rattle.theorems.proofs.Lengths.{dests_length, sources_length}
use Rattle.walks.proofs.contract.Partner.{dest_words_length}

-- ---- a run of stores

module _ {ℓ} {A : Type ℓ} where
  -- one run after another
  pub sets_append : (vs ws l : List A) (i : ℕ) → sets (sets l i vs) (i + length vs) ws ≡ sets l i (vs ++ ws)
  sets_append [] ws l i = ap (λ k. sets l k ws) (add-zero i)
  sets_append (a ∷ vs) ws l i =
      ap (λ k. sets (sets (set l i a) (suc i) vs) k ws) (add-suc i (length vs) ∙ sym (suc-add i (length vs)))
      ∙ sets_append vs ws (set l i a) (suc i)

  -- what stands after a run is as it was
  pub sets_drop : (vs l : List A) (i n : ℕ) → i + length vs ≤ n → drop n (sets l i vs) ≡ drop n l
  sets_drop [] l i n h = refl
  sets_drop (a ∷ vs) l i n h = sets_drop vs (set l i a) (suc i) n (omega arith) ∙ drop-set-lt n l i a (omega arith)

-- ---- destinations

-- the destinations' places lie in the record
pub dests_room : (rec : List ℕ) (s : Shape) (d : Dests) → s ≡ shape_for rec → length rec ≡ 8 → listed d ≡ dests rec → s.regs + length (listed d) ≤ 8
dests_room rec s d same len e = rw (same, e, dests_length rec len) (omega (arith, regs_in_record (get_or rec 0 0)))

-- ---- a record

-- two runs, one after the other, in a list
two_runs : (vs ws l : List ℕ) (i m n : ℕ) → length vs ≡ m → length ws ≡ n → i + (m + n) ≤ length l
    → sets (sets l i vs) (i + m) ws ≡ take i l ++ (vs ++ (ws ++ drop (i + (m + n)) l))
two_runs vs ws l i m n v w h =
    ap (λ k. sets (sets l i vs) (i + k) ws) (sym v)
    ∙ (sets_append vs ws l i
    ∙ (sets-eq (vs ++ ws) l i (rw len h)
    ∙ (ap (λ k. take i l ++ (vs ++ ws) ++ drop (i + k) l) len ∙ simp append_assoc)))
  where
    len : length (vs ++ ws) ≡ m + n
    len = length-append vs ws ∙ (ap (λ k. k + length ws) v ∙ ap (λ k. m + k) w)

module _ (rec : List ℕ) (len : length rec ≡ 8) (next : ℕ) (colours : List ℕ) (s : Shape) (same : s ≡ shape_for rec) (out : List ℕ)
    (written : out ≡ sets rec (shape_for rec).regs (dest_words (dests rec) next colours)) where
  count : length (dest_words (dests rec) next colours) ≡ (shape_for rec).dsts
  count = dest_words_length (dests rec) next colours ∙ dests_length rec len

  -- the destinations being written, the sources are as they were
  pub sources_left : take s.srcs (drop (s.regs + s.dsts) out) ≡ sources rec
  unfolding sources
  sources_left =
      rw (same, written)
      (ap (take (shape_for rec).srcs) (sets_drop (dest_words (dests rec) next colours) rec (shape_for rec).regs ((shape_for rec).regs + (shape_for rec).dsts) (omega (arith, count))))

  -- and when they are written too, the record is in colours
  sources_set : (regs : List (Option ℕ))
      → sets out (s.regs + s.dsts) (map (source_word regs colours) (take s.srcs (drop (s.regs + s.dsts) out))) ≡ rewritten regs next colours rec
  unfolding rewritten
  sources_set regs =
      ap (λ ws. sets out (s.regs + s.dsts) (map (source_word regs colours) ws)) sources_left
      ∙ rw (same, written)
      (two_runs (dest_words (dests rec) next colours) (source_words regs colours rec) rec (shape_for rec).regs (shape_for rec).dsts (shape_for rec).srcs
      count (length-map (sources rec) (source_word regs colours) ∙ sources_length rec len) (omega (arith, regs_in_record (get_or rec 0 0))))

  -- the same of a write to the part of the record that the sources stand in
  pub sources_written : (regs : List (Option ℕ)) (ws : List ℕ) (k : ℕ) → k ≡ s.srcs → ws ≡ map (source_word regs colours) (take k (drop (s.regs + s.dsts) out))
      → put_mid (s.regs + s.dsts) k out ws ≡ rewritten regs next colours rec
  sources_written regs ws k e w =
      let f = source_word regs colours in
      let whole : ws ≡ map f (take s.srcs (drop (s.regs + s.dsts) out)) = rw (sym e) w in
      let n : length ws ≡ k = rw (whole, sources_left, e, same) (length-map (sources rec) f ∙ sources_length rec len) in
      let size : length out ≡ 8 = rw written (length-sets rec (shape_for rec).regs (dest_words (dests rec) next colours) ∙ len) in
      let after : drop (s.regs + s.dsts + k) out ≡ drop k (drop (s.regs + s.dsts) out) = sym (drop-drop k (s.regs + s.dsts) out) in
      let room : s.regs + s.dsts + length ws ≤ length out = rw (n, e, size, same) (omega (arith, regs_in_record (get_or rec 0 0))) in
      let middle : put_mid (s.regs + s.dsts) k out ws ≡ take (s.regs + s.dsts) out ++ ws ++ drop k (drop (s.regs + s.dsts) out) = simp append_assoc in
      middle
      ∙ (sym (sets-eq ws out (s.regs + s.dsts) room ∙ (ap (λ m. take (s.regs + s.dsts) out ++ ws ++ drop (s.regs + s.dsts + m) out) n ∙ ap (λ l. take (s.regs + s.dsts) out ++ ws ++ l) after))
      ∙ (ap (sets out (s.regs + s.dsts)) whole ∙ sources_set regs))
