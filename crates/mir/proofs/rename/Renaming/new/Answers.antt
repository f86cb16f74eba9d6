-- `mir::rename::Renaming::new` meets its contract: no register holds a static.
use Rattle.mir.proofs.Renaming.{known_fresh}
use Rattle.mir.proofs.rename.Renaming.new.Goals as goal

pub invariant_of-result : goal.invariant_of-result
invariant_of-result c = record { known = known_fresh 0 }
