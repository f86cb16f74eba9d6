-- Public: how many members a walk of the index passes, whatever the list.
use Rattle.std.specs.Prelude.{ℕ, ◌+◌, ◌<◌, ◌≤◌, List}
use Rattle.passes.specs.declared.symbol.Loc.{Loc}
use Rattle.sets.specs.declared.ReadSet.{ReadSet}
use Rattle.sets.specs.Members.{passed_in, InSpaces}
use Rattle.sets.specs.Sets.{pair_at, bucket, key, Indexed, passed, Bits}

-- at most one more than keys have bits, in however many steps
abbrev pub FewPassed : Type 0
FewPassed =
    (words : List ℕ) (n heads : ℕ) (at : ℕ → ℕ) → Indexed words n heads at → 0 < heads
    → (l : Loc) (b : ℕ) → Bits b l → ((j : ℕ) → j < n → Bits b (pair_at words j))
    → (f : ℕ) → passed words heads at l f (at (bucket l heads)) (key l) ≤ b + 1

-- in a set whose members are of the three spaces, for a location of these
abbrev pub ThirtyFive : Type 0
ThirtyFive =
    (s : ReadSet) (l : Loc) → InSpaces l → ((j : ℕ) → j < s.len → InSpaces (pair_at s.words.now j)) → (f : ℕ) → passed_in s l f ≤ 35
