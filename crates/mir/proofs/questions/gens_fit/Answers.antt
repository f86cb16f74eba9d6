-- `mir::questions::gens_fit` meets its contract: each register word is asked.
use Rattle.mir.specs.Questions.{gens_fit}
use Rattle.mir.proofs.questions.gens_fit.Goals as goal

pub returns : goal.returns
unfolding gens_fit
returns c = rw (← c.registers_of.ensures) c.all_gens_fit.ensures
