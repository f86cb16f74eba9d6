-- `file::layout::read_words` meets its contract: the slice starts with the words read.
-- By the law of one word more.
use Prim.Native.Nat.{◌≤◌}
use mathlib.Core.Path.{◌≡◌}
use Rattle.mir.specs.Answers.{over}
use Rattle.file.specs.File.{words_in}
use Rattle.file.proofs.layout.read_words.Given as goal

abbrev pub invariant-loop-j : goal.invariant-loop-j
invariant-loop-j l = (l.j ≤ l.n) × (l.out ≡ over (words_in l.bytes l.from l.j) l.initial.out)
