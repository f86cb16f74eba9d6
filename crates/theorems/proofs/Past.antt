-- What question 15 is for: a static that was written before a BranchIf is read no more past it, so that it ends there at the latest.
-- The statics written before a BranchIf only grow in number; each source's is none of them.
use Rattle.std.specs.Prelude.{Some, None}
use Prim.Native.Nat.{ℕ, zero, suc, ◌+◌, ◌-◌, ◌≤◌, ◌<◌}
use mathlib.Core.Bool.{Bool, true, false, cond}
use mathlib.Core.List.{List}
use mathlib.Core.Path.{◌≡◌}
use native.Mathlib.Omega.{arith}
use lib.Dec.{eqb}
use lib.ListN.{get_or}
use borrow.Author.Tests.{leb-true}
use Rattle.mir.specs.declared.config.Settings.{Settings}
use Rattle.mir.specs.Branches.{past_to}
use Rattle.mir.specs.Questions.{since, sources_since}
use Rattle.mir.specs.Records.{records, record_at, word_at, is_gen}
use Rattle.mir.specs.Renaming.{regs_to, statics_to}
use Rattle.mir.specs.Shapes.{branch_if, sources}
use Rattle.mir.proofs.Passing.{ListPasses}
use Rattle.passes.specs.Create.{ends_of}
use Rattle.theorems.proofs.Create.{In, all_in, Unread, statics_grow, unread_end}
use Rattle.theorems.proofs.Update.{never_falls}

module _ (list : List ℕ) where
  past_below : (i : ℕ) → past_to list i ≤ statics_to list i
  unfolding past_to
  past_below zero = omega arith
  past_below (suc i) = go (eqb (word_at (record_at list i) 0) branch_if) (past_below i)
    where
      go : (b : Bool) → past_to list i ≤ statics_to list i → cond b (statics_to list i) (past_to list i) ≤ statics_to list (suc i)
      go true up = omega (arith, statics_grow list i)
      go false up = omega (arith, statics_grow list i)

  past_grow : (i : ℕ) → past_to list i ≤ past_to list (suc i)
  unfolding past_to
  past_grow i = go (eqb (word_at (record_at list i) 0) branch_if)
    where
      go : (b : Bool) → past_to list i ≤ cond b (statics_to list i) (past_to list i)
      go true = past_below i
      go false = omega arith

  past_mono : (k i : ℕ) → past_to list i ≤ past_to list (k + i)
  past_mono = never_falls (past_to list) past_grow

module _ (s : Settings) (list table : List ℕ) (passes : ListPasses s list table) where
  -- a static that a source holds is none of those
  source_since : (i : ℕ) → i < records list → (w t : ℕ) → In w (sources (record_at list i)) → is_gen w ≡ true
      → get_or (regs_to list i) w None ≡ Some t → past_to list i ≤ t
  unfolding sources_since
  source_since i l w t m g e =
      let h = all_in (since (past_to list i) (regs_to list i)) (sources (record_at list i)) w (passes.each i l).since m in
      leb-true (past_to list i) t (rw (g, e) at h)

  -- record i is a BranchIf
  pub stale_end : (i t : ℕ) → i < records list → word_at (record_at list i) 0 ≡ branch_if → t < statics_to list i → get_or (ends_of list) t 0 ≤ i
  unfolding past_to
  stale_end i t l e h = unread_end list i t (omega (arith, statics_grow list i)) unread l
    where
      all_past : past_to list (suc i) ≡ statics_to list i
      all_past = rw e

      unread : (j : ℕ) → i < j → j < records list → Unread list j t
      unread j k inside w m g f =
          let q : j - suc i + suc i ≡ j = omega arith in
          let p = rw q at (past_mono list (j - suc i) (suc i)) in
          omega (arith, p, all_past, source_since j inside w t m g f)
