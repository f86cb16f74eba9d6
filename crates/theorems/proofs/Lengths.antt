-- A coloured record is eight words, and the reduced list is made of whole records.
-- The destinations and the sources keep their number.
use Rattle.passes.specs.declared.symbol.Loc.{Loc}
use Rattle.std.specs.Prelude.{Option}
use Prim.Native.Nat.{ℕ, zero, suc, ◌+◌, ◌*◌, ◌≤◌, ◌<◌}
use mathlib.Core.Bool.{Bool, true, false, cond}
use mathlib.Core.List.{List, [], ◌∷◌, ◌++◌}
use mathlib.Core.Path.{◌≡◌, refl, ap, ◌∙◌}
use native.Mathlib.Omega.{arith}
use lib.Dec.{eqb}
use lib.ListN.{length, take, drop, length-append, length-take, length-drop, length-map}
use Rattle.mir.specs.Records.{records, record_at, word_at}
use Rattle.mir.specs.Renaming.{regs_to}
use Rattle.mir.specs.Shapes.{shape_for, dests, sources}
use Rattle.mir.proofs.Shapes.{regs_in_record}
use Rattle.passes.specs.declared.alloc.Outcome.{Outcome}
use Rattle.passes.specs.declared.alloc.Outcome.TheVariants.{Kept, Nop, Load, Move, Save}
use Rattle.passes.specs.Color.{Setup, Coloring, wanted, source_word, after_dest, words_for, sources_at, dests_at, colored, color_to}
use Rattle.passes.specs.Contract.{is_kept, outcome_at, out_at, reduced_to, outcome_number, count_to}
use Rattle.theorems.proofs.Rows.{record_length}

words_length : (n i : ℕ) (E : List ℕ) (ds : List (ℕ × Option Loc)) (st : Coloring) → length (words_for n i E ds st) ≡ length ds
unfolding words_for
words_length n i E [] st = refl
words_length n i E (d ∷ ds) st = ap suc (words_length n i E ds (after_dest n i E d.0 d.1 st))

wanted_length : (ws : List ℕ) (hx hy : Option Loc) → length (wanted ws hx hy) ≡ length ws
wanted_length [] hx hy = refl
wanted_length (x ∷ ws) hx hy = ap suc (length-map ws (λ (y : ℕ). (y, hy)))

module _ (rec : List ℕ) (len : length rec ≡ 8) where
  pub dests_length : length (dests rec) ≡ (shape_for rec).dsts
  unfolding dests
  dests_length =
      let s = shape_for rec in
      omega (arith, length-take s.dsts (drop s.regs rec), length-drop s.regs rec, regs_in_record (word_at rec 0))

  pub sources_length : length (sources rec) ≡ (shape_for rec).srcs
  unfolding sources
  sources_length =
      let s = shape_for rec in
      omega (arith, length-take s.srcs (drop (s.regs + s.dsts) rec), length-drop (s.regs + s.dsts) rec, regs_in_record (word_at rec 0))

module _ (u : Setup) (i : ℕ) (inside : i < records u.list) where
  pub dest_words_length : (st : Coloring) → length (words_for u.count i u.ends (dests_at u i st) st) ≡ (shape_for (record_at u.list i)).dsts
  dest_words_length st =
      words_length u.count i u.ends (dests_at u i st) st
      ∙ (wanted_length (dests (record_at u.list i)) _ _ ∙ dests_length (record_at u.list i) (record_length u.list i inside))

  pub source_words_length : (st : Coloring) → length (sources_at u i st) ≡ (shape_for (record_at u.list i)).srcs
  source_words_length st =
      length-map (sources (record_at u.list i)) (source_word (regs_to u.list i) st.colours)
      ∙ sources_length (record_at u.list i) (record_length u.list i inside)

  pub colored_length : (st : Coloring) → length (colored u i st) ≡ 8
  unfolding colored
  colored_length st =
      let rec = record_at u.list i in
      let s = shape_for rec in
      let ws = words_for u.count i u.ends (dests_at u i st) st in
      let ss = sources_at u i st in
      let rest = drop (s.regs + (s.dsts + s.srcs)) rec in
      omega (
        arith,
        dest_words_length st,
        source_words_length st,
        record_length u.list i inside,
        length-append (take s.regs rec) (ws ++ (ss ++ rest)),
        length-append ws (ss ++ rest),
        length-append ss rest,
        length-take s.regs rec,
        length-drop (s.regs + (s.dsts + s.srcs)) rec,
        regs_in_record (word_at rec 0),
      )

  pub out_length : length (out_at u i) ≡ 8
  unfolding out_at
  out_length = colored_length (color_to u i)

-- the reduced list has as many records as are kept
pub kept_next : (mark : ℕ) (u : Setup) (i : ℕ) → count_to Kept mark u (suc i) ≡ count_to Kept mark u i + cond (is_kept (outcome_at mark u i)) 1 0
unfolding count_to
kept_next mark u i = ap (λ (k : ℕ). count_to Kept mark u i + k) (go (outcome_at mark u i))
  where
    go : (f : Outcome) → ◌≡◌ {A = ℕ} (cond (eqb (outcome_number f) (outcome_number Kept)) 1 0) (cond (is_kept f) 1 0)
    go Kept = refl
    go Nop = refl
    go Load = refl
    go Move = refl
    go Save = refl

pub reduced_length : (mark : ℕ) (u : Setup) (i : ℕ) → i ≤ records u.list → length (reduced_to mark u i) ≡ count_to Kept mark u i * 8
unfolding reduced_to count_to
reduced_length mark u zero h = refl
reduced_length mark u (suc i) h = rw (kept_next mark u i) (go (is_kept (outcome_at mark u i)) (reduced_length mark u i (omega arith)))
  where
    go : (b : Bool) → length (reduced_to mark u i) ≡ count_to Kept mark u i * 8
        → length (reduced_to mark u i ++ cond b (out_at u i) []) ≡ (count_to Kept mark u i + cond b 1 0) * 8
    go true up = omega (arith, length-append (reduced_to mark u i) (out_at u i), out_length u i (omega arith))
    go false up = omega (arith, length-append (reduced_to mark u i) [])

-- every record is kept, or dropped and counted as one of the four
pub counts_add : (mark : ℕ) (u : Setup) (i : ℕ)
    → count_to Kept mark u i + (count_to Nop mark u i + (count_to Load mark u i + (count_to Move mark u i + count_to Save mark u i))) ≡ i
unfolding count_to
counts_add mark u zero = refl
counts_add mark u (suc i) = go (outcome_at mark u i) (counts_add mark u i)
  where
    go : (f : Outcome) → count_to Kept mark u i + (count_to Nop mark u i + (count_to Load mark u i + (count_to Move mark u i + count_to Save mark u i))) ≡ i
        → count_to Kept mark u i + cond (eqb (outcome_number f) 0) 1 0
        + (count_to Nop mark u i + cond (eqb (outcome_number f) 1) 1 0
        + (count_to Load mark u i + cond (eqb (outcome_number f) 2) 1 0
        + (count_to Move mark u i + cond (eqb (outcome_number f) 3) 1 0
        + (count_to Save mark u i + cond (eqb (outcome_number f) 4) 1 0))))
        ≡ suc i
    go Kept up = omega arith
    go Nop up = omega arith
    go Load up = omega arith
    go Move up = omega arith
    go Save up = omega arith
