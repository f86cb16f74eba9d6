-- The loop of `entries::same_entries`: the entries passed have the colours and the ends.
use Rattle.vectors.proofs.Places.{Same}
use Rattle.vectors.proofs.entries.same_entries.Given as goal

abbrev pub invariant-loop-k : goal.invariant-loop-k
invariant-loop-k l = Same l.statics l.colours l.ends l.k
