-- `mir::questions::passes` meets its contract: what is asked at once are the questions.
-- By `passes_at_once`, from each part's answer.
use mathlib.Core.Bool.{not}
use mathlib.Core.Path.{refl, ap}
use borrow.Author.Tests.{le-leb, lt-leb}
use Rattle.mir.specs.Questions.{known_kind}
use Rattle.mir.proofs.Folds.{answered_no, answered_yes}
use Rattle.mir.proofs.Passing.{passes_at_once}
use Rattle.mir.proofs.questions.passes.Goals as goal

pub returns-then-kind-gt20 : goal.returns-then-kind-gt20
unfolding known_kind
returns-then-kind-gt20 c =
    let kind = lt-leb _ _ (rw c.requires at c.if-kind-gt20.true) in
    rw (passes_at_once c.args.table.now c.args.count_regs c.args.regs.now c.args.past c.args.rec.now, kind) refl

pub returns-then-not-fields_fit : goal.returns-then-not-fields_fit
unfolding known_kind
returns-then-not-fields_fit c =
    let kind = le-leb _ _ (rw c.requires at c.if-kind-gt20.false) in
    let fields = answered_no c.fields_fit.ensures (ap not c.if-not-fields_fit.true) in
    rw (passes_at_once c.args.table.now c.args.count_regs c.args.regs.now c.args.past c.args.rec.now, kind, fields) refl

pub returns-then-not-partner_fits : goal.returns-then-not-partner_fits
unfolding known_kind
returns-then-not-partner_fits c =
    let kind = le-leb _ _ (rw c.requires at c.if-kind-gt20.false) in
    let fields = answered_yes c.fields_fit.ensures (ap not c.if-not-fields_fit.false) in
    let partner = answered_no c.partner_fits.ensures (ap not c.if-not-partner_fits.true) in
    rw (passes_at_once c.args.table.now c.args.count_regs c.args.regs.now c.args.past c.args.rec.now, kind, fields, partner) refl

pub returns-then-not-dests_fit : goal.returns-then-not-dests_fit
unfolding known_kind
returns-then-not-dests_fit c =
    let kind = le-leb _ _ (rw c.requires at c.if-kind-gt20.false) in
    let fields = answered_yes c.fields_fit.ensures (ap not c.if-not-fields_fit.false) in
    let partner = answered_yes c.partner_fits.ensures (ap not c.if-not-partner_fits.false) in
    let d = answered_no c.dests_fit.ensures (ap not c.if-not-dests_fit.true) in
    rw (passes_at_once c.args.table.now c.args.count_regs c.args.regs.now c.args.past c.args.rec.now, kind, fields, partner, d) refl

pub returns : goal.returns
unfolding known_kind
returns c =
    let kind = le-leb _ _ (rw c.requires at c.if-kind-gt20.false) in
    let fields = answered_yes c.fields_fit.ensures (ap not c.if-not-fields_fit.false) in
    let partner = answered_yes c.partner_fits.ensures (ap not c.if-not-partner_fits.false) in
    let d = answered_yes c.dests_fit.ensures (ap not c.if-not-dests_fit.false) in
    let s = rw c.sources_of.ensures at c.all_pass.ensures in
    rw (passes_at_once c.args.table.now c.args.count_regs c.args.regs.now c.args.past c.args.rec.now, kind, fields, partner, d) s
