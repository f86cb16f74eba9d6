-- Inner: the read set as the list of its members, in joining order.
use Rattle.std.specs.Prelude.{ℕ, ◌*◌, ◌<◌, ◌≤◌, List, ◌≡◌, length}
use Rattle.mir.specs.Answers.{over}
use Rattle.passes.specs.declared.symbol.Loc.{Loc}
use Rattle.passes.specs.Color.{pairs_from}
use Rattle.passes.specs.Contract.{words_of}
use Rattle.sets.specs.Sets.{bucket, key, link, passed}
use Rattle.sets.specs.declared.ReadSet.{ReadSet}

abbrev pub members_in : ReadSet → List Loc
members_in s = pairs_from s.words.now 0 s.len

-- the set has these members, written over what its words held before; the words are lent as they were
pub record SetHolds (s : ReadSet) (ms : List Loc) (before : ReadSet) : Type 0 where
  pub same : s.words.ghost_name ≡ before.words.ghost_name
  pub members : members_in s ≡ ms
  pub words : s.words.now ≡ over (words_of ms) before.words.now
  pub fits : length ms * 2 ≤ length before.words.now

-- how many members the walk for a location passes in a set, in f steps at most
abbrev pub passed_in : ReadSet → Loc → ℕ → ℕ
passed_in s l f =
    let at = link s.low.now s.high.now in
    passed s.words.now s.heads at l f (at (bucket l s.heads)) (key l)

-- a location of the three spaces, whose index is a word
pub record InSpaces (l : Loc) : Type 0 where
  pub space : l.space ≤ 2
  pub index : l.index < 4294967296
