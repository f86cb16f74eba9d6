-- `file::layout::write_words` meets its contract: the slice starts with the bytes of the words passed.
-- By the law of one word more; the loop starts from the slice that the first word is in.
use Prim.Native.Nat.{◌≤◌}
use mathlib.Core.Path.{◌≡◌}
use mathlib.Core.List.{◌∷◌}
use lib.ListN.{length, take}
use Rattle.mir.specs.Answers.{over}
use Rattle.file.specs.File.{bytes_of}
use Rattle.file.proofs.layout.write_words.Given as goal

abbrev pub invariant-loop-j : goal.invariant-loop-j
invariant-loop-j l = (l.j ≤ length l.words) × (l.out ≡ over (bytes_of (l.first ∷ take l.j l.words)) l.initial.out)
