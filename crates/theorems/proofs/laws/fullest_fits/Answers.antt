use Rattle.theorems.proofs.Fullest.{fullest_fits}
use Rattle.theorems.proofs.laws.fullest_fits.Goals as goal

pub returns : goal.returns
returns c = fullest_fits
