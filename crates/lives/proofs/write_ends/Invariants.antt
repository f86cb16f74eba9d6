-- `lives::write_ends` meets its contract: the words passed are written.
-- By one word more.
use mathlib.Core.Path.{◌≡◌}
use Prim.Native.Nat.{◌≤◌}
use lib.ListN.{length, take}
use Rattle.mir.specs.Answers.{over}
use Rattle.lives.proofs.write_ends.Given as goal

abbrev pub invariant-loop-k : goal.invariant-loop-k
invariant-loop-k l = (l.k ≤ length l.own) × (l.ends ≡ over (take l.k l.own) l.initial.ends)
