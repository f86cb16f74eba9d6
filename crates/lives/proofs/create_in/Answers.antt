-- `lives::create_in` meets its contract: the words that are written are the ends, and they are once no question refuses.
-- There are at most two ends for a record, which have room in the slice.
use Prim.Native.Nat.{ℕ}
use mathlib.Core.List.{List}
use mathlib.Core.Path.{◌≡◌, refl, sym, ap, ◌∙◌}
use native.Mathlib.Omega.{arith}
use lib.ListN.{take, length-take}
use Rattle.mir.specs.Answers.{Verdict, Passed, Refused, over, left}
use Rattle.mir.specs.Folds.{or_else, first_refusal}
use Rattle.mir.specs.Questions.{record_by, record_refusal, branch_refusal, list_refusal}
use Rattle.mir.specs.Records.{records}
use Rattle.mir.proofs.Asked.{passed_on}
use Rattle.mir.proofs.Over.{over_take}
use Rattle.mir.proofs.Passing.{well_sized_lem}
use Rattle.passes.specs.Create.{ends_to, ends_of}
use Rattle.theorems.proofs.Create.{ends_fit}
use Rattle.lives.proofs.create_in.Goals as goal

pub check_branches-requires : goal.check_branches-requires
check_branches-requires g c = (well_sized_lem _ _ c.requires.sized).small

pub write_ends-requires : goal.write_ends-requires
unfolding ends_of
write_ends-requires g c =
    let made = rw c.in_ok-statics.was at c.create_records.ensures in
    omega (arith, made.statics_are, ends_fit c.args.list.now c.requires.ends_room, length-take {A = ℕ})

-- a record is refused, and question 16 is not put
stops : (list table : List ℕ) (count_regs : ℕ) {v : Verdict} {number index : ℕ} → v ≡ Refused number index → v ≡ first_refusal (record_by table count_regs list) (records list)
    → v ≡ list_refusal count_regs list table
unfolding record_refusal
stops list table count_regs r e = r ∙ ap (λ u. or_else u (branch_refusal list)) (sym r ∙ e)

pub returns-in_err-statics-clause-answer : goal.returns-in_err-statics-clause-answer
returns-in_err-statics-clause-answer g c =
    rw (passed_on c.from_residual.result c.from_residual.ensures.1)
    (stops c.args.list.now c.args.table.now c.args.count_regs refl c.in_err-statics.ensures)

pub returns-in_err-statics-clause-ends : goal.returns-in_err-statics-clause-ends
returns-in_err-statics-clause-ends g c =
    ap (λ v. left v (ends_of c.args.list.now) c.args.ends.now) (stops c.args.list.now c.args.table.now c.args.count_regs refl c.in_err-statics.ensures)

-- all records pass, and then question 16 decides
asked : (list table : List ℕ) (count_regs : ℕ) {v : Verdict} → Passed ≡ first_refusal (record_by table count_regs list) (records list) → v ≡ branch_refusal list
    → v ≡ list_refusal count_regs list table
unfolding record_refusal
asked list table count_regs p e = e ∙ ap (λ u. or_else u (branch_refusal list)) p

pub returns-in_err-check_branches-clause-answer : goal.returns-in_err-check_branches-clause-answer
returns-in_err-check_branches-clause-answer g c =
    let made = rw c.in_ok-statics.was at c.create_records.ensures in
    rw (passed_on c.from_residual-in_err-check_branches.result c.from_residual-in_err-check_branches.ensures.1)
    (asked c.args.list.now c.args.table.now c.args.count_regs made.passes c.in_err-check_branches.ensures)

pub returns-clause-answer : goal.returns-clause-answer
returns-clause-answer g c =
    let made = rw c.in_ok-statics.was at c.create_records.ensures in
    asked c.args.list.now c.args.table.now c.args.count_regs made.passes c.in_ok-check_branches.ensures

pub returns-clause-ends : goal.returns-clause-ends
unfolding ends_of
returns-clause-ends g c =
    let made = rw c.in_ok-statics.was at c.create_records.ensures in
    let list = c.args.list.now in
    let all : take c.in_ok-statics.statics c.create_records.new.ends ≡ ends_to list (records list) =
    rw (made.statics_are, made.ends_are) (over_take (ends_to list (records list)) _) in
    c.write_ends.ensures
    ∙ (ap (λ ws. over ws c.args.ends.now) all
    ∙ ap (λ v. left v (ends_to list (records list)) c.args.ends.now) (asked list c.args.table.now c.args.count_regs made.passes c.in_ok-check_branches.ensures))
