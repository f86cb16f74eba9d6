-- `questions::branches::take_out` meets its contract: the number stands at none of the places passed, and other numbers are in as before.
-- By the law of a store that takes a number out.
use Prim.Native.Nat.{ℕ, ◌+◌, ◌*◌, ◌≤◌, ◌<◌}
use mathlib.Core.Bool.{and-true, and-false, not, ◌&&◌}
use mathlib.Core.List.{List}
use mathlib.Core.Path.{◌≡◌, refl, sym, ◌∙◌}
use native.Mathlib.Decide.{ℕ_discrete}
use native.Mathlib.Omega.{arith}
use lib.Dec.{eqb}
use lib.ListN.{length, get_or, set, length-set}
use lib.Seq.{get_or-set_same, get_or-set_other}
use borrow.Author.Count.{below_more}
use borrow.Author.Rules.{rules}
use borrow.Author.Tests.{eq-eqb, ne_eqb}
use Rattle.questions.specs.Table.{slot_of, holds, Without}
use Rattle.questions.proofs.Targets.{slot_below, holds_none, struck}
use Rattle.questions.proofs.branches.take_out.Invariants.{Taking}
use Rattle.questions.proofs.branches.take_out.Goals as goal
use Rattle.questions.proofs.branches.take_out.Goals.{then-table-p, else-table-p}

module _ {number k : ℕ} {table₀ table : List ℕ} (h : Taking number table₀ table k) where
  -- the number is not there
  passes : (get_or table (slot_of number * 8 + k) 0 ≡ number → ⊥) → Taking number table₀ table (k + 1)
  passes other = record { same_length = h.same_length; gone = below_more _ _ h.gone other; others = h.others }

  -- the number is there, and a number of another slot takes its place
  takes : length table₀ ≡ 4096 → k < 8 → (v : ℕ) → (slot_of v ≡ slot_of number → ⊥) → get_or table (slot_of number * 8 + k) 0 ≡ number
      → Taking number table₀ (set table (slot_of number * 8 + k) v) (k + 1)
  takes len l v away at =
      let b = slot_below number in
      let same = h.same_length in
      let p = slot_of number * 8 + k in
      let long : length table ≡ 4096 = same ∙ len in
      let here : get_or (set table p v) p 0 ≡ v = get_or-set_same table p v 0 (omega arith) in
      record {
        same_length = simp length-set same;
        gone = below_more _ _
            (λ j m. rw (get_or-set_other table p (slot_of number * 8 + j) v 0 (λ e. omega arith)) (h.gone j m))
            (rw here (λ (e : v ≡ number). away (rw e refl)));
        others = λ t g. struck table long p (omega arith) number v (omega arith) away at t g ∙ h.others t g;
      }

  ends : 8 ≤ k → Without (eqb number) table₀ table
  ends l t = go (ℕ_discrete number t)
    where
      go : Dec (number ≡ t) → holds table t ≡ (holds table₀ t && not (eqb number t))
      go (yes e) =
          rw (← e, eq-eqb number number refl, holds_none table number (λ j m. h.gone j (omega arith)))
          (sym (and-false (holds table₀ number)))
      go (no g) = rw (ne_eqb number t g) (h.others t g ∙ sym (and-true (holds table₀ t)))

pub loop-k-init : goal.loop-k-init
loop-k-init c = (search rules, record { same_length = refl; gone = λ j l. absurd (omega arith); others = λ t g. refl })

pub loop-k-preserved : goal.loop-k-preserved
loop-k-preserved c =
    let h = c.loop-k.invariant.1 in
    let is = c.slot-s.ensures.is in
    let len = c.requires in
    let l = c.loop-k-test.true in (
      search rules,
      elim c.if-table-p.branch [
        | then-table-p w ↦ rw (w.table-is, is) (takes h len l _ (rw is at w.away.ensures) (rw is at w.if-table-p.true))
        | else-table-p w ↦ rw w.table-is (passes h (rw is at w.if-table-p.false))
      ],
    )

pub shape_of-table : goal.shape_of-table
shape_of-table c =
    c.loop-k.invariant.1.same_length

pub returns : goal.returns
returns c =
    ends c.loop-k.invariant.1 c.loop-k-test.false
