use Rattle.passes.proofs.BranchesTold.{branches_told}
use Rattle.passes.proofs.laws.branches_told.Goals as goal

pub returns : goal.returns
returns c =
    branches_told
