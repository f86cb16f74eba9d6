-- `walks::contract::unmark` meets its contract: the ends before the index have no mark, all else as it was.
-- By one end more.
use Prim.Native.Nat.{◌%◌}
use mathlib.Core.Path.{◌≡◌}
use Rattle.colours.proofs.Mapped.{mapped_to}
use Rattle.walks.proofs.contract.unmark.Given as goal

abbrev pub invariant-loop-end : goal.invariant-loop-end
invariant-loop-end l = l.ends ≡ mapped_to (λ end. end % 65536) l.initial.ends l.end-index
