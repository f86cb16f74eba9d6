-- `questions::branches::strike` meets its contract: the numbers of the Labels passed have been taken out.
-- By one Label more.
use mathlib.Core.Bool.{Bool, true, false, not, ◌&&◌, ◌||◌, and-true}
use mathlib.Core.Path.{◌≡◌, refl, sym, ◌∙◌}
use native.Mathlib.Numerals.{add-one}
use borrow.Author.Rules.{rules}
use Rattle.mir.specs.Branches.{label_at}
use Rattle.mir.specs.Folds.{any_below}
use Rattle.questions.specs.Table.{holds}
use Rattle.questions.proofs.branches.strike.Goals as goal

one_more : (x y z : Bool) → (x && not y && not z) ≡ (x && not (y || z))
one_more true true z = refl
one_more true false z = refl
one_more false y z = refl

pub loop-rec-init : goal.loop-rec-init
unfolding any_below
loop-rec-init c = (search rules, refl, λ t. sym (and-true _))

pub loop-rec-preserved : goal.loop-rec-preserved
unfolding any_below
loop-rec-preserved c =
    let list = c.args.list.now in
    let i = c.loop-rec.rec-index in
    let inv = c.loop-rec.invariant in
    let items = c.records_of-rec-items.ensures in
    let here = items.each i c.loop-rec-test.true in (
      search rules,
      c.strike_label.auto.table ∙ inv.1,
      λ t. rw (add-one, c.strike_label.ensures t, here.1, inv.2 t) (one_more (holds c.args.table.now t) (any_below i (label_at list t)) (label_at list t i)),
    )
