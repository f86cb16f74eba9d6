-- Inner: how many pairs of the table the records name, of which a pair may be named again.
use Rattle.std.specs.Prelude.{ℕ, zero, suc, ◌+◌, cond, List, eqb}
use Rattle.mir.specs.Records.{record_at, word_at}
use Rattle.mir.specs.Shapes.{load_args}

-- a record, and the first i of a list
abbrev pub named_pairs : List ℕ → ℕ
named_pairs rec = cond (eqb (word_at rec 0) load_args) (word_at rec 2) 0

unfoldable pub named_to : List ℕ → ℕ → ℕ
named_to list zero = 0
named_to list (suc i) = named_to list i + named_pairs (record_at list i)
