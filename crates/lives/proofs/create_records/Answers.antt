-- `lives::create_records` meets its contract: no record passed is refused, and after each the slice starts with the ends so far.
-- By the laws of a walk that stops at the first refusal, and by `ends_next`, beside the renaming that every walk keeps.
use Prim.Native.Nat.{ℕ, ◌*◌, ◌<◌, ◌≤◌}
use mathlib.Core.Bool.{cond}
use mathlib.Core.List.{List}
use mathlib.Core.Path.{◌≡◌, refl, sym, ◌∙◌}
use native.Mathlib.Numerals.{add-one}
use native.Mathlib.Omega.{arith}
use lib.Dec.{eqb}
use lib.ListN.{take, length-take}
use Rattle.mir.specs.Answers.{number_of}
use Rattle.mir.specs.Branches.{past_to}
use Rattle.mir.specs.Questions.{record_by}
use Rattle.mir.specs.Records.{records, record_at, word_at}
use Rattle.mir.specs.Shapes.{branch_if}
use Rattle.mir.proofs.Asked.{numbered}
use Rattle.mir.proofs.Folds.{unrefused_none, unrefused_more, unrefused_stops, unrefused_ends}
use Rattle.mir.proofs.Passing.{well_sized_lem}
use Rattle.mir.proofs.Renaming.{statics_two, walked_first, walked_next}
use Rattle.passes.specs.Create.{ends_to}
use Rattle.theorems.proofs.Create.{ends_length}
use Rattle.lives.proofs.Ends.{ends_next}
use Rattle.lives.proofs.Prefix.{record_first}
use Rattle.lives.proofs.create_records.Goals as goal

-- a record of the part is the list's
turn : (list : List ℕ) (until i : ℕ) {r : List ℕ} → until ≤ records list → (i < records (take (until * 8) list)) × (r ≡ record_at (take (until * 8) list) i)
    → (i < records list) × (r ≡ record_at list i) × (i < until)
turn list until i w part =
    let below : i < until = omega (arith, part.0, length-take {A = ℕ}) in
    (omega (arith, below, w), part.1 ∙ record_first list until i below, below)

pub loop-i-init : goal.loop-i-init
unfolding past_to ends_to
loop-i-init c = (unrefused_none, walked_first _ c.new-renaming.ensures.regs c.new-renaming.ensures.statics, refl, refl)

pub overflow_cast-i : goal.overflow_cast-i
overflow_cast-i c =
    let part = c.records_of-rec-items.ensures.each c.loop-i.i c.loop-i-test.true in
    omega (arith, (turn c.args.list.now c.args.until c.loop-i.i c.requires.within part).0, well_sized_lem _ _ c.requires.sized)

pub overflow_cast-i-in-Err : goal.overflow_cast-i-in-Err
overflow_cast-i-in-Err c =
    let part = c.records_of-rec-items.ensures.each c.loop-i.i c.loop-i-test.true in
    omega (arith, (turn c.args.list.now c.args.until c.loop-i.i c.requires.within part).0, well_sized_lem _ _ c.requires.sized)

-- ---- one turn

pub create_by_kind-requires : goal.create_by_kind-requires
create_by_kind-requires c =
    let part = c.records_of-rec-items.ensures.each c.loop-i.i c.loop-i-test.true in
    let here = turn c.args.list.now c.args.until c.loop-i.i c.requires.within part in
    let w = c.loop-i.invariant.1 in
    let size = well_sized_lem _ _ c.requires.sized in
    record {
      few = omega (arith, here.0, w.statics_are, statics_two c.args.list.now c.loop-i.i, c.requires.ends_room, c.loop-i.auto.ends);
      next_fits = omega (arith, size, here.0, w.statics_are, statics_two c.args.list.now c.loop-i.i);
    }

pub returns-in-Err : goal.returns-in-Err
returns-in-Err c =
    let part = c.records_of-rec-items.ensures.each c.loop-i.i c.loop-i-test.true in
    let here = turn c.args.list.now c.args.until c.loop-i.i c.requires.within part in
    let inv = c.loop-i.invariant in
    let no = rw c.in-Err.is at c.create_by_kind.ensures in
    let by_is : number_of c.in-Err.question ≡ record_by c.args.table.now c.args.count_regs c.args.list.now c.loop-i.i =
    rw (← here.1, ← inv.1.regs_are, ← inv.2) no in
    rw c.of_record.ensures (unrefused_stops inv.0 here.2 by_is (numbered c.in-Err.question))

next_past : {r q : List ℕ} {a b k l : ℕ} → r ≡ q → a ≡ k → b ≡ l → cond (eqb (word_at r 0) branch_if) a b ≡ cond (eqb (word_at q 0) branch_if) k l
next_past h e f = rw (h, e, f)

pub loop-i-preserved : goal.loop-i-preserved
unfolding past_to
loop-i-preserved c =
    let part = c.records_of-rec-items.ensures.each c.loop-i.i c.loop-i-test.true in
    let here = turn c.args.list.now c.args.until c.loop-i.i c.requires.within part in
    let inv = c.loop-i.invariant in
    let ended = rw c.in-Ok.is at c.create_by_kind.ensures in
    -- what the record is refused by is the definition's number for it
    let by_is : 0 ≡ record_by c.args.table.now c.args.count_regs c.args.list.now c.loop-i.i =
    rw (← here.1, ← inv.1.regs_are, ← inv.2) (sym ended.none) in (
      unrefused_more inv.0 here.2 by_is refl,
      walked_next inv.1 here.1 ended.regs_are ended.statics_are,
      rw add-one (ended.past_is ∙ next_past here.1 inv.1.statics_are inv.2),
      ended.ends_are ∙ rw (inv.3) (ends_next inv.1 here.1 refl c.args.ends.now),
    )

-- ---- after the last turn

pub returns : goal.returns
returns c =
    let past : c.args.until ≤ c.loop-i.i = omega (arith, c.records_of-rec-items.ensures.len, c.loop-i-test.false, c.requires.within, length-take {A = ℕ}) in
    let e : c.loop-i.i ≡ c.args.until = omega (arith, past, c.loop-i.invariant.0.within) in
    record {
      passes = unrefused_ends c.loop-i.invariant.0 past;
      statics_are = rw (← e) (c.loop-i.invariant.1.statics_are ∙ sym (ends_length c.args.list.now c.loop-i.i));
      ends_are = rw e at (c.loop-i.invariant.3);
    }
