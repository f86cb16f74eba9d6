-- `mir::config::Settings::fixed` meets its contract: each arm of the branch is the case of `fixed_mark` that its test picks.
use Rattle.mir.specs.Records.{fixed_mark}
use Rattle.mir.proofs.config.Settings.fixed.Goals as goal

pub returns-then-self : goal.returns-then-self
unfolding fixed_mark
returns-then-self c = rw (c.if-self.true, c.from-args.ensures)

pub returns-else-self : goal.returns-else-self
unfolding fixed_mark
returns-else-self c = rw (c.if-self.false, c.from-args.ensures)
