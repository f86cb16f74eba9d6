-- The walk for the location has come to the place, and each turn passes one of the members before it, 35 at most (`thirty_five`).
-- The measure is how many it still passes, in as many steps as there are places above.
use Rattle.std.proofs.Common.{◌+◌, ◌*◌, ◌-◌}
use Rattle.sets.specs.Sets.{link, passed}
use Rattle.sets.proofs.Paths.{Walk}
use Rattle.sets.proofs.ReadSet.find.Given as goal

abbrev pub invariant-loop-l : goal.invariant-loop-l
invariant-loop-l l =
    let s = l.self in
    Walk s.words.now s.len s.heads (link s.low.now s.high.now) l.l l.place l.bits

abbrev pub decreases-loop-l : goal.decreases-loop-l
decreases-loop-l l =
    let s = l.self in
    let at = link s.low.now s.high.now in
    passed s.words.now s.heads at l.l (s.heads + s.len * 2 - l.place) (at l.place) l.bits
