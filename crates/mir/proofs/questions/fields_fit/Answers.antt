-- `mir::questions::fields_fit` meets its contract: the words are asked by the shape of the record's kind, and then the pairs.
use Prim.Native.Nat.{ℕ}
use mathlib.Core.Bool.{Bool, not}
use mathlib.Core.List.{List}
use mathlib.Core.Path.{◌≡◌, sym, ap, ◌∙◌}
use borrow.Author.Tests.{eq-eqb, ne_eqb}
use Rattle.mir.specs.Questions.{words_fit, fields_fit}
use Rattle.mir.specs.declared.shape.Shape.{Shape}
use Rattle.mir.specs.Shapes.{shape_for}
use Rattle.mir.proofs.Shapes.{shape_here}
use Rattle.mir.proofs.Folds.{answered_no, answered_yes}
use Rattle.mir.proofs.questions.fields_fit.Goals as goal

-- the words are asked by the shape of the kind in hand, which is the record's
own : (rec : List ℕ) {s : Shape} {b : Bool} → s ≡ shape_for rec → b ≡ words_fit rec s.most → b ≡ words_fit rec (shape_for rec).most
own rec e h = rw (← e) h

pub returns-then-not-words_fit : goal.returns-then-not-words_fit
unfolding fields_fit
returns-then-not-words_fit c =
    let fit = own c.args.rec.now (shape_here c.args.rec.now c.shape_of-s.ensures c.requires) c.words_fit.ensures in
    simp (answered_no fit (ap not c.if-not-words_fit.true))

pub returns-then-kind-eq-LOAD_ARGS : goal.returns-then-kind-eq-LOAD_ARGS
unfolding fields_fit
returns-then-kind-eq-LOAD_ARGS c =
    let fit = own c.args.rec.now (shape_here c.args.rec.now c.shape_of-s.ensures c.requires) c.words_fit.ensures in
    simp (answered_yes fit (ap not c.if-not-words_fit.false), eq-eqb _ _ (sym c.requires ∙ c.if-kind-eq-LOAD_ARGS.true)) c.pairs_fit.ensures

pub returns-else-kind-eq-LOAD_ARGS : goal.returns-else-kind-eq-LOAD_ARGS
unfolding fields_fit
returns-else-kind-eq-LOAD_ARGS c =
    let fit = own c.args.rec.now (shape_here c.args.rec.now c.shape_of-s.ensures c.requires) c.words_fit.ensures in
    simp (answered_yes fit (ap not c.if-not-words_fit.false), ne_eqb _ _ (λ e. c.if-kind-eq-LOAD_ARGS.false (c.requires ∙ e)))
