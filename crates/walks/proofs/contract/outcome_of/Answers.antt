-- `walks::contract::outcome_of` meets its contract: kind by kind.
-- By what becomes of the record in colours, told of the record as it was.
use mathlib.Core.Logic.{◌⊎◌, inl, inr}
use mathlib.Core.Path.{◌≡◌, sym, ap, ◌∙◌}
use mathlib.Core.Bool.{◌&&◌, ◌||◌, not}
use native.Mathlib.Omega.{arith}
use Rattle.mir.specs.Records.{word_at}
use Rattle.mir.specs.Shapes.{shape_of}
use Rattle.mir.proofs.Shapes.{is_complex}
use Rattle.passes.specs.Color.{is_member, partner}
use Rattle.passes.specs.Contract.{is_beyond}
use Rattle.sets.specs.Members.{members_in}
use Rattle.walks.proofs.contract.Written.{nop_goes, load_goes, mov_goes, save_goes, save_complex_goes, rest_stays}
use Rattle.coloring.proofs.Sources.{partner_below}
use borrow.Author.Rules.{rules}
use Rattle.walks.proofs.contract.outcome_of.Goals as goal
use Rattle.walks.proofs.contract.outcome_of.Goals.{then-is_beyond, else-is_beyond, then-is_beyond-2, else-is_beyond-2}

pub returns-in-0 : goal.returns-in-0
returns-in-0 c =
    let r = c.args.renaming.now in
    nop_goes c.args.fixed _ _ r.regs r.statics c.args.colours.now c.args.rec.now (omega arith) c.requires.kind_is c.in-0.is

pub returns-in-5 : goal.returns-in-5
returns-in-5 c =
    let r = c.args.renaming.now in
    rw c.was_found.ensures at c.drop_if.ensures
    ∙ load_goes c.args.fixed _ _ r.regs r.statics c.args.colours.now c.args.rec.now (omega arith) c.requires.kind_is c.in-5.is

pub returns-in-4 : goal.returns-in-4
returns-in-4 c =
    let r = c.args.renaming.now in
    rw (c.dest_word-to.ensures, c.deallocate-from.ensures) at c.drop_if-in-4.ensures
    ∙ mov_goes c.args.fixed _ _ r.regs r.statics c.args.colours.now c.args.rec.now (omega arith) c.requires.kind_is c.in-4.is

pub contains_either-requires : goal.contains_either-requires
unfolding shape_of
contains_either-requires c =
    let k : word_at c.args.rec.now 0 ≡ 8 = sym c.requires.kind_is ∙ c.in-8.is in
    let below = partner_below c.args.rec.now (ap (λ n. is_complex (shape_of n).action) k) c.requires.partner_fits in
    record { index_lt_any = rw c.loc_of-l-in-8.ensures below }

pub returns-after-is_beyond : goal.returns-after-is_beyond
returns-after-is_beyond c =
    let r = c.args.renaming.now in
    let l = c.loc_of-l.result in
    let drops : c.if-is_beyond.drop_if ≡ (is_beyond c.args.fixed l && not (is_member l (members_in c.args.set.now))) =
    elim c.if-is_beyond.branch [ then-is_beyond w ↦ search rules | else-is_beyond w ↦ search rules ] in
    rw (drops, c.loc_of-l.ensures) at c.drop_if-in-6.ensures
    ∙ save_goes c.args.fixed _ _ r.regs r.statics c.args.colours.now c.args.rec.now (omega arith) c.requires.kind_is c.in-6.is

pub returns-after-is_beyond-2 : goal.returns-after-is_beyond-2
returns-after-is_beyond-2 c =
    let r = c.args.renaming.now in
    let ms = members_in c.args.set.now in
    let l = c.loc_of-l-in-8.result in
    let drops : c.if-is_beyond-2.drop_if ≡ (is_beyond c.args.fixed l && not (is_member l ms || is_member (partner l) ms)) =
    elim c.if-is_beyond-2.branch [ then-is_beyond-2 w ↦ search rules | else-is_beyond-2 w ↦ search rules ] in
    rw (drops, c.loc_of-l-in-8.ensures) at c.drop_if-in-8.ensures
    ∙ save_complex_goes c.args.fixed _ _ r.regs r.statics c.args.colours.now c.args.rec.now (omega arith) c.requires.kind_is c.in-8.is

pub returns-in_default : goal.returns-in_default
returns-in_default c =
    let r = c.args.renaming.now in
    let k = c.args.kind in
    let not_nop : k ≡ 0 → ⊥ = search rules in
    let not_load : (k ≡ 5) ⊎ (k ≡ 7) → ⊥ = search rules in
    let not_mov : k ≡ 4 → ⊥ = search rules in
    let not_save : k ≡ 6 → ⊥ = search rules in
    let not_save_complex : k ≡ 8 → ⊥ = search rules in
    rest_stays c.args.fixed _ _ r.regs r.statics c.args.colours.now c.args.rec.now (omega arith) c.requires.kind_is
    not_nop (λ e. not_load (inl e)) (λ e. not_load (inr e)) not_mov not_save not_save_complex
