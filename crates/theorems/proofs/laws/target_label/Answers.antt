-- By question 16, which asks for such a Label.
use Rattle.std.specs.Prelude.{◌≡◌, true}
use Rattle.mir.specs.Branches.{label_at, label_of}
use Rattle.mir.specs.Questions.{has_label}
use Rattle.mir.specs.Records.{records, record_at}
use Rattle.theorems.proofs.Landing.{last_holds}
use Rattle.mir.proofs.Passing.{list_passes}
use Rattle.passes.specs.Machine.{Passing, target}
use Rattle.theorems.proofs.laws.target_label.Goals as goal

pub returns : goal.returns
unfolding Passing target
returns c s list table passing i l branch =
    let passes = list_passes true s list table passing in
    let name = label_of (record_at list i) in
    let has : has_label list name ≡ true = rw branch at (passes.landing i l) in
    last_holds (label_at list name) (records list) (records list) has
