-- `questions::branches::check_branches` meets its contract: no record before a round is refused, and the first branch that is left decides.
-- By the laws of a walk that stops at the first refusal; what was collected and not struck has no Label.
use Prim.Native.Nat.{◌+◌, ◌-◌, ◌<◌}
use mathlib.Core.List.{[]}
use mathlib.Core.Path.{◌≡◌, sym, ap, ◌∙◌}
use native.Mathlib.Omega.{arith}
use borrow.Author.Rules.{rules}
use lib.ListN.{length, take, drop}
use Rattle.std.proofs.lemmas.List.Quantifiers.{position-Some}
use Rattle.mir.specs.Branches.{is_branch}
use Rattle.mir.specs.Questions.{branch_by, branch_refusal}
use Rattle.mir.specs.Records.{records}
use Rattle.mir.proofs.Folds.{unrefused_none, unrefused_stops, unrefused_ends}
use Rattle.mir.proofs.Records.{rows_are}
use Rattle.questions.specs.Table.{is_left}
use Rattle.questions.proofs.Targets.{by_none, left_is, part_at, position_none, unrefused_until}
use Rattle.questions.proofs.branches.check_branches.Goals as goal

pub loop-from-init : goal.loop-from-init
loop-from-init c =
    let items = c.records_of-records.ensures in
    let found = position-Some is_branch c.records_of-records.result.now c.in-Some.branch [] (sym c.first_branch.ensures ∙ c.in-Some.is) in
    let within : c.in-Some.branch < records c.args.list.now = rw items.len at found.0 in
    unrefused_until c.args.list.now 0 c.in-Some.branch unrefused_none (omega arith) (omega arith)
    (λ i a l. by_none c.args.list.now i (sym (ap is_branch (rows_are c.args.list.now _ items.len items.each i (omega arith))) ∙ found.2 i l))

pub loop-from-preserved : goal.loop-from-preserved
loop-from-preserved c =
    let items = c.records_of-records.ensures in
    let rows = c.records_of-records.result.now in
    let from = c.loop-from.from in
    let until = c.collect-until.result in
    let part = take (until - from) (drop from rows) in
    let none = position_none (is_left c.strike.new.table) part [] (sym c.first_left.ensures ∙ c.in_default-first_left.is) in
    let long : length part ≡ until - from = search rules in
    let collected = c.collect-until.ensures in
    let each = rows_are c.args.list.now rows items.len items.each in
    unrefused_until c.args.list.now from until c.loop-from.invariant (omega (arith, collected.more)) collected.within
    (λ i a l. rw (left_is c.strike.new.table collected c.strike.ensures i a l, ← (part_at c.args.list.now rows each collected.within i a l), none (i - from) (omega (arith, long))))

pub returns-in-Some-first_left : goal.returns-in-Some-first_left
unfolding branch_refusal
returns-in-Some-first_left c =
    let items = c.records_of-records.ensures in
    let rows = c.records_of-records.result.now in
    let from = c.loop-from.from in
    let until = c.collect-until.result in
    let part = take (until - from) (drop from rows) in
    let found = position-Some (is_left c.strike.new.table) part c.in-Some-first_left.k [] (sym c.first_left.ensures ∙ c.in-Some-first_left.is) in
    let long : length part ≡ until - from = search rules in
    let at = from + c.in-Some-first_left.k in
    let below : at < until = omega (arith, found.0, long) in
    let shift : at - from ≡ c.in-Some-first_left.k = omega arith in
    let record_is = part_at c.args.list.now rows (rows_are c.args.list.now rows items.len items.each) c.collect-until.ensures.within in
    let passed =
    unrefused_until c.args.list.now from at c.loop-from.invariant (omega arith) (omega (arith, below, c.collect-until.ensures.within))
    (λ i a l. rw (left_is c.strike.new.table c.collect-until.ensures c.strike.ensures i a (omega (arith, l, below)), ← (record_is i a (omega (arith, l, below))), found.2 (i - from) (omega arith))) in
    let bad : branch_by c.args.list.now at ≡ 16 =
    rw (left_is c.strike.new.table c.collect-until.ensures c.strike.ensures at (omega arith) below, ← (record_is at (omega arith) below), shift, found.1) in
    rw c.of_record.ensures (unrefused_stops passed (omega (arith, below, c.collect-until.ensures.within)) (sym bad) (λ e. omega arith))

pub returns : goal.returns
unfolding branch_refusal
returns c = unrefused_ends c.loop-from.invariant (rw c.records_of-records.ensures.len at c.loop-from-test.false)

pub returns-in_default : goal.returns-in_default
unfolding branch_refusal
returns-in_default c =
    let items = c.records_of-records.ensures in
    let none = position_none is_branch c.records_of-records.result.now [] (sym c.first_branch.ensures ∙ c.in_default.is) in
    unrefused_ends (unrefused_until c.args.list.now 0 (records c.args.list.now) unrefused_none (omega arith) (omega arith)
    (λ i a l. by_none c.args.list.now i (sym (ap is_branch (rows_are c.args.list.now _ items.len items.each i l)) ∙ none i (omega (arith, l, items.len))))) (omega arith)
