-- `questions::branches::collect` meets its contract: the branches passed are in the table, and the first always gets in.
-- By what a number that is put leaves in the table; the first finds the table empty.
use Prim.Native.Nat.{ℕ, ◌+◌, ◌-◌, ◌*◌, ◌<◌}
use mathlib.Core.Bool.{Bool, true, false, not}
use mathlib.Core.List.{List}
use mathlib.Core.Logic.{⊎_elim}
use mathlib.Core.Path.{◌≡◌, ◌∙◌, ap}
use native.Mathlib.Decide.{dec_lt}
use native.Mathlib.Numerals.{add-one}
use native.Mathlib.Omega.{arith}
use lib.ListN.{length}
use borrow.Author.Tests.{not-true}
use Rattle.mir.specs.Branches.{label_of}
use Rattle.questions.specs.Table.{slot_of, Empty, Put}
use Rattle.mir.specs.Records.{record_at}
use Rattle.mir.proofs.Folds.{below_suc}
use Rattle.mir.proofs.Records.{rows_are}
use Rattle.questions.proofs.Targets.{slot_below, part_at}
use Rattle.questions.proofs.branches.collect.Invariants.{Collecting}
use Rattle.questions.proofs.branches.collect.Goals as goal

module _ {list table₀ table : List ℕ} {from i : ℕ} (h : Collecting list table₀ table from i) where
  -- a number that does not get in is not the first
  stops : {after : List ℕ} {done : Bool} → Empty table₀ → Put (record_at list i) table after done → done ≡ false → from < i
  stops empty put out = go (dec_lt from i)
    where
      go : Dec (from < i) → from < i
      go (yes l) = l
      go (no g) =
          let e = h.untouched (omega (arith, g, h.after)) in
          let b = slot_below (label_of (record_at list i)) in
          let p = slot_of (label_of (record_at list i)) * 8 in
          absurd (empty p (omega arith) (rw e at (put.full out p (omega arith))))

  -- a number that gets in
  goes_on : {after : List ℕ} {done : Bool} → length after ≡ length table → Put (record_at list i) table after done → done ≡ true
      → Collecting list table₀ after from (i + 1)
  goes_on len put in_table =
      record {
        after = omega (arith, h.after);
        same_length = len ∙ h.same_length;
        untouched = λ e. absurd (omega (arith, h.after));
        held = λ k a l b.
            ⊎_elim (λ (m : k < i). put.kept _ (h.held k a m b)) (λ (e : k ≡ i). rw e (put.there in_table (rw e at b)))
            (below_suc (rw add-one at l));
      }

pub returns-then-not-put_branch : goal.returns-then-not-put_branch
returns-then-not-put_branch c =
    let h = c.loop-k.invariant.1 in
    let items = c.records_of-records.ensures in
    let rows = c.records_of-records.result.now in
    let at = c.args.from + c.loop-k.k in
    let shift : at - c.args.from ≡ c.loop-k.k = omega arith in
    let each = rows_are c.args.list.now rows items.len items.each in
    let is = rw shift at (part_at c.args.list.now rows {from = c.args.from} {until = length rows} each (omega (arith, items.len)) at (omega arith) (omega arith)) in
    let put = rw is at c.put_branch.ensures in
    record {
      more = stops h c.requires.empty put (not-true _ (ap not c.if-not-put_branch.true));
      within = c.loop-k.invariant.0;
      held = λ k a l b. put.kept _ (h.held k a l b);
    }
