-- `questions::check_args` meets its contract: the branch's test is the question.
use borrow.Author.Tests.{le-leb, lt-leb}
use Rattle.mir.specs.Questions.{few_args}
use Rattle.questions.proofs.check_args.Goals as goal

pub returns-then-args-gt65535 : goal.returns-then-args-gt65535
unfolding few_args
returns-then-args-gt65535 c = simp (c.of_list.ensures, lt-leb _ _ c.if-args-gt65535.true)

pub returns : goal.returns
unfolding few_args
returns c = simp (le-leb _ _ c.if-args-gt65535.false)
