-- `allocator::has_room` meets its contract: a test that fails makes the whole false.
-- The last one counts what is left of the set.
use Prim.Native.Nat.{ℕ, ◌+◌, ◌*◌, ◌-◌, ◌/◌, ◌≤◌}
use mathlib.Core.Path.{◌≡◌, refl, sym, ◌∙◌}
use mathlib.Core.Bool.{Bool, true, false, ◌&&◌}
use native.Mathlib.Omega.{arith}
use lib.Dec.{leb}
use Rattle.allocator.specs.Optimize.{room_for}
use borrow.Author.Tests.{leb-true, leb-false, le-leb, lt-leb}
use Rattle.allocator.proofs.has_room.Goals as goal

-- what is added on one side is taken away on the other
leb-less : (n m k : ℕ) → k ≤ m → leb n (m - k) ≡ leb (n + k) m
leb-less n m k h = go (leb n (m - k)) refl
  where
    go : (b : Bool) → leb n (m - k) ≡ b → b ≡ leb (n + k) m
    go true e = sym (le-leb (n + k) m (omega (arith, leb-true n (m - k) e)))
    go false e = sym (lt-leb (n + k) m (omega (arith, leb-false n (m - k) e)))

-- the definition, the tests that were passed being true

module _ (list table out statics set : ℕ) (h : list ≤ out) where
  past-out : room_for list table out statics set ≡ (leb (list / 8 * 2) statics && leb (list / 8 * 4 + table) set)
  unfolding room_for
  past-out = rw (le-leb list out h)

  past-statics : list / 8 * 2 ≤ statics → room_for list table out statics set ≡ leb (list / 8 * 4 + table) set
  past-statics k = past-out ∙ rw (le-leb (list / 8 * 2) statics k)

pub returns-then-out-list : goal.returns-then-out-list
unfolding room_for
returns-then-out-list c = rw (lt-leb c.args.list c.args.out (omega arith))

pub returns-then-statics-count : goal.returns-then-statics-count
returns-then-statics-count c =
    rw (past-out c.args.list c.args.table c.args.out c.args.statics c.args.set (omega arith), lt-leb (c.args.list / 8 * 2) c.args.statics (omega arith))

pub returns-then-set-table : goal.returns-then-set-table
returns-then-set-table c =
    let e = past-statics c.args.list c.args.table c.args.out c.args.statics c.args.set (omega arith) (omega arith) in
    rw (e, lt-leb (c.args.list / 8 * 4 + c.args.table) c.args.set (omega arith))

pub returns : goal.returns
returns c =
    let e = past-statics c.args.list c.args.table c.args.out c.args.statics c.args.set (omega arith) (omega arith) in
    rw e (leb-less (c.args.list / 8 * 4) c.args.set c.args.table (omega arith))
