-- `questions::branches::strike_label` meets its contract: a Label, whose number is taken out, or none.
-- By what the record's kind says of its number.
use mathlib.Core.Bool.{and-true}
use mathlib.Core.Path.{sym}
use Rattle.questions.proofs.Targets.{label_is, label_not}
use Rattle.questions.proofs.branches.strike_label.Goals as goal

pub returns-then-rec-eq-LABEL : goal.returns-then-rec-eq-LABEL
returns-then-rec-eq-LABEL c t = rw (label_is c.args.rec.now c.if-rec-eq-LABEL.true t) (c.take_out.ensures t)

pub returns-else-rec-eq-LABEL : goal.returns-else-rec-eq-LABEL
returns-else-rec-eq-LABEL c t = rw (label_not c.args.rec.now c.if-rec-eq-LABEL.false t) (sym (and-true _))
