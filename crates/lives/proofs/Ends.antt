-- The ends of statics in the lent slice: a record's sources and destinations change what the slice starts with as `ends_to`
-- does, and nothing else.
-- By the laws of a slice that starts with words; a static that a register holds is among the statics so far.
use Rattle.std.specs.Prelude.{Option, Some, None}
use Prim.Native.Nat.{ℕ, ◌+◌}
use mathlib.Core.Bool.{Bool, true, false, cond}
use mathlib.Core.List.{List, [], ◌∷◌, ◌++◌}
use mathlib.Core.Path.{◌≡◌, refl, sym, ap, ◌∙◌}
use native.Mathlib.Numerals.{add-one}
use lib.ListN.{length, get_or, replicate, length-replicate}
use Rattle.mir.specs.Records.{record_at, is_gen}
use Rattle.mir.specs.Renaming.{gens, statics_to, regs_to}
use Rattle.mir.specs.Shapes.{dests, sources}
use Rattle.passes.specs.Create.{ended_at, consume, consumed, ends_to}
use Rattle.theorems.proofs.Create.{names_to, ends_length, consume_length, consumed_length}
use Rattle.mir.specs.Answers.{over}
use Rattle.mir.specs.Inner.{Known}
use borrow.Rule.Slice.PartMut.{put_mid}
use Rattle.mir.specs.declared.rename.Renaming.{Renaming}
use Rattle.mir.proofs.Over.{over_set, over_part}
use Rattle.mir.proofs.Renaming.{Walked}

-- ---- sources

module _ (regs : List (Option ℕ)) (i : ℕ) where
  -- a register without a static is read
  pub consumed_nothing : (w : ℕ) (ends : List ℕ) → get_or regs w None ≡ None → ends ≡ consume regs i w ends
  consumed_nothing w ends e = go (is_gen w)
    where
      go : (b : Bool) → ends ≡ cond b (ended_at (get_or regs w None) i ends) ends
      go true = rw e
      go false = refl

  pub consumed_next : (ws : List ℕ) (w : ℕ) (ends : List ℕ) → consumed regs i (ws ++ w ∷ []) ends ≡ consume regs i w (consumed regs i ws ends)
  unfolding consumed
  consumed_next [] w ends = refl
  consumed_next (v ∷ ws) w ends = consumed_next ws w (consume regs i v ends)

  consume_over : (w : ℕ) (E old : List ℕ) → Known regs (length E) → consume regs i w (over E old) ≡ over (consume regs i w E) old
  consume_over w E old h = go (is_gen w) (get_or regs w None) refl
    where
      go : (b : Bool) (c : Option ℕ) → get_or regs w None ≡ c → cond b (ended_at c i (over E old)) (over E old) ≡ over (cond b (ended_at c i E) E) old
      go false c e = refl
      go true None e = refl
      go true (Some t) e = over_set E old t i (h w t e)

  pub consumed_over : (ws E old : List ℕ) → Known regs (length E) → consumed regs i ws (over E old) ≡ over (consumed regs i ws E) old
  unfolding consumed
  consumed_over [] E old h = refl
  consumed_over (w ∷ ws) E old h =
      ap (consumed regs i ws) (consume_over w E old h)
      ∙ consumed_over ws (consume regs i w E) old (λ r t e. rw (consume_length regs i w E) (h r t e))

-- ---- a record: after its sources its statics end where they are written

pub ends_next : {list : List ℕ} {i : ℕ} {r : Renaming} {rec : List ℕ} {made : ℕ} → Walked list i r → rec ≡ record_at list i → made ≡ gens (dests rec) → (old : List ℕ)
    → put_mid r.statics made (consumed r.regs i (sources rec) (over (ends_to list i) old)) (replicate made i) ≡ over (ends_to list (i + 1)) old
unfolding ends_to
ends_next {list} {i} w e m old =
    let regs = regs_to list i in
    let fresh = gens (dests (record_at list i)) in
    let here = replicate fresh i in
    let read = consumed regs i (sources (record_at list i)) (ends_to list i) in
    let below : Known regs (length (ends_to list i)) = rw (ends_length list i) (names_to list i).below in
    let first : statics_to list i ≡ length read = sym (consumed_length regs i (sources (record_at list i)) (ends_to list i) ∙ ends_length list i) in
    rw (add-one i, w.regs_are, w.statics_are, m, e)
    (ap (λ xs. put_mid (statics_to list i) fresh xs here) (consumed_over regs i (sources (record_at list i)) (ends_to list i) old below)
    ∙ over_part read here old _ _ first (sym (length-replicate fresh i)))
