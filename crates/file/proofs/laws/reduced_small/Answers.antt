use Rattle.file.proofs.WordBounds.{reduced_small}
use Rattle.file.proofs.laws.reduced_small.Goals as goal

pub returns : goal.returns
returns c = reduced_small
