-- By computation.
use Rattle.std.specs.Prelude.{◌≡◌, true, false, refl}
use Rattle.mir.specs.Folds.{all_below}
use Rattle.mir.specs.Records.{record_at}
use Rattle.mir.proofs.Clash.{clash}
use Rattle.passes.specs.Machine.{AllKinds}
use Rattle.passes.proofs.laws.straight_cases.Goals as goal

pub returns : goal.returns
unfolding AllKinds all_below record_at
returns c =
    record { of_kinds = refl; every = refl; not_every = λ (h : false ≡ true). clash (cc) }
