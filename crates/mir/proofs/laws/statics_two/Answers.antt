use Rattle.mir.proofs.Renaming.{statics_two}
use Rattle.mir.proofs.laws.statics_two.Goals as goal

pub returns : goal.returns
returns c = statics_two
