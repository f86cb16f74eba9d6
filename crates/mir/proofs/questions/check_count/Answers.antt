-- `mir::questions::check_count` meets its contract: the branch's test is the question.
use borrow.Author.Tests.{le-leb, lt-leb}
use Rattle.mir.specs.Questions.{few_registers}
use Rattle.mir.proofs.questions.check_count.Goals as goal

pub returns-then-count_regs-gt-MAX_REGS : goal.returns-then-count_regs-gt-MAX_REGS
unfolding few_registers
returns-then-count_regs-gt-MAX_REGS c = simp (c.of_list.ensures, lt-leb _ _ c.if-count_regs-gt-MAX_REGS.true)

pub returns : goal.returns
unfolding few_registers
returns c = simp (le-leb _ _ c.if-count_regs-gt-MAX_REGS.false)
