-- By computation.
use Rattle.std.specs.Prelude.{refl}
use Rattle.allocator.specs.Statics.{entries}
use Rattle.allocator.proofs.laws.entry_cases.Goals as goal

pub returns : goal.returns
unfolding entries
returns c = record { none = refl; two = refl }
