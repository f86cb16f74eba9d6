-- `mir::rename::count_static` meets its contract: the branch's test picks the case of `one`.
use borrow.Author.Tests.{lt-ltb, le-ltb}
use Rattle.mir.proofs.rename.count_static.Goals as goal

pub returns-then-w-lt256 : goal.returns-then-w-lt256
returns-then-w-lt256 c = simp (lt-ltb _ _ c.if-w-lt256.true)

pub returns-else-w-lt256 : goal.returns-else-w-lt256
returns-else-w-lt256 c = simp (le-ltb _ _ c.if-w-lt256.false)
