-- `file::reduce::settings_at` meets its contract: the five words, one by one.
use Rattle.file.specs.File.{settings_in}
use Rattle.file.proofs.reduce.settings_at.Goals as goal

pub returns : goal.returns
unfolding settings_in
returns c = cc
