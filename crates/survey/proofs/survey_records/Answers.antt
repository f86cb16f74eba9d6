-- `survey::survey_records` meets its contract: no record passed is refused, and the first no decides; the mask is that of the records
-- passed, and the place is the last Label's among them.
-- By the laws of a walk that stops at the first refusal.
use Prim.Native.Nat.{ℕ}
use mathlib.Core.List.{List}
use mathlib.Core.Path.{◌≡◌, refl, sym, ap, ◌∙◌}
use native.Mathlib.Numerals.{add-one}
use native.Mathlib.Omega.{arith}
use mir.Syntax.{w32}
use mir.Val.{Fits}
use Rattle.survey.specs.Beside.{mask_to, place_in, parts, used_mask}
use Rattle.mir.specs.Answers.{no_in}
use Rattle.mir.specs.Branches.{label_at}
use Rattle.mir.specs.Folds.{last_below}
use Rattle.mir.specs.Questions.{shape_no, shape_by, shape_refusal}
use Rattle.mir.specs.Records.{max_regs, records, record_at}
use Rattle.mir.proofs.Asked.{numbered, asked_ok}
use Rattle.mir.proofs.Folds.{unrefused_none, unrefused_more, unrefused_stops, unrefused_ends}
use Rattle.survey.proofs.Masks.{ones_digits}
use Rattle.mir.proofs.Passing.{well_sized_lem, shape_passes, gens_fit_more}
use Rattle.survey.proofs.survey_records.Goals as goal

pub loop-i-init : goal.loop-i-init
unfolding mask_to last_below
loop-i-init c = (unrefused_none, refl, refl)

-- what a record is refused by is the definition's number for it
told : (table list : List ℕ) (count_regs i : ℕ) {no : ℕ} {rec : List ℕ} → rec ≡ record_at list i → no ≡ shape_no table count_regs rec → no ≡ shape_by table count_regs list i
told table list count_regs i e h = rw (← e) h

pub returns-in-Err : goal.returns-in-Err
unfolding shape_refusal
returns-in-Err c =
    let here = c.records_of-rec-items.ensures.each c.loop-i.i c.loop-i-test.true in
    let no = told c.args.table.now c.args.list.now c.args.settings.count_regs c.loop-i.i here.1 c.check_shape.ensures in
    rw (
      c.of_record.ensures,
      ← (unrefused_stops c.loop-i.invariant.0 here.0 (sym (ap no_in c.in-Err.is) ∙ no) (numbered c.in-Err.question)),
    )

pub get_dst-mask-requires : goal.get_dst-mask-requires
get_dst-mask-requires c =
    let p = shape_passes _ _ _ (asked_ok c.in_default.is c.check_shape.ensures) in
    gens_fit_more _ max_regs _ c.requires.count_regs_bound p.gens

pub loop-i-preserved : goal.loop-i-preserved
unfolding mask_to last_below
loop-i-preserved c =
    let here = c.records_of-rec-items.ensures.each c.loop-i.i c.loop-i-test.true in
    let inv = c.loop-i.invariant in (
      unrefused_more inv.0 here.0 (told c.args.table.now c.args.list.now c.args.settings.count_regs c.loop-i.i here.1 c.check_shape.ensures) (ap no_in c.in_default.is),
      rw (add-one, c.get_dst-mask.ensures, here.1, inv.1),
      rw (add-one, c.later_label-place.ensures, here.1, inv.2),
    )

pub returns : goal.returns
unfolding shape_refusal parts used_mask
returns c =
    let a = c.args in
    let list = a.list.now in
    let inv = c.loop-i.invariant in
    let e : c.loop-i.i ≡ records list = omega (arith, inv.0) in
    let m : c.loop-i.mask ≡ mask_to list (records list) = rw e at inv.1 in
    let l : place_in c.loop-i.place ≡ last_below (label_at list a.label) (records list) = rw e at inv.2 in
    rw (← (unrefused_ends inv.0 (rw c.records_of-rec-items.ensures.len at c.loop-i-test.false)), ones_digits max_regs c.used_mask-used.result c.used_mask-used.type_inv, c.used_mask-used.ensures, m, l)

pub overflow_cast-i-in-loop-i : goal.overflow_cast-i-in-loop-i
overflow_cast-i-in-loop-i c = omega (arith, well_sized_lem _ _ c.requires.table_value, c.loop-i.invariant.0)

pub overflow_cast-i : goal.overflow_cast-i
overflow_cast-i c =
    -- a record's index is a word
    let index_fits : Fits w32 c.loop-i.i =
    omega (arith, well_sized_lem _ _ c.requires.table_value, c.loop-i.invariant.0) in
    index_fits
