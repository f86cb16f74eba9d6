-- `colours::allocs::Allocs::clear` meets its contract: the colours passed are without the location, and those past the count hold none.
-- By the laws of a list that is changed element by element.
use Rattle.std.specs.Prelude.{None}
use Prim.Native.Nat.{◌<◌}
use mathlib.Core.Path.{◌≡◌, ap, ◌∙◌}
use native.Mathlib.Omega.{arith}
use lib.ListN.{length, set}
use borrow.Author.Rules.{rules}
use Rattle.passes.specs.Color.{alloc, without}
use Rattle.colours.specs.Colours.{loc_in}
use Rattle.colours.proofs.Colours.{stands_as}
use Rattle.colours.proofs.Mapped.{mapped_to, mapped_zero, mapped_at, mapped_next, mapped_rest}
use Rattle.colours.proofs.Steps.{past_same}
use Rattle.colours.proofs.allocs.Allocs.clear.Goals as goal

pub loop-c-init : goal.loop-c-init
loop-c-init c = (search rules, λ n i allocs s. stands_as s (mapped_zero (without _) allocs))

pub loop-c-preserved : goal.loop-c-preserved
loop-c-preserved c =
    let k = c.loop-c.c in
    let f = without (loc_in c.args.l) in (
      search rules,
      λ n i allocs s.
          let within : k < length allocs = omega (arith, s.masked.size, s.masked.few) in
          stands_as (c.clear_at.ensures n i _ (rw s.count at c.loop-c-test.true) (c.loop-c.invariant.1 n i allocs s))
          (ap (λ a. set (mapped_to f allocs k) k (f a)) (mapped_at f allocs k (alloc 0 None) within) ∙ mapped_next f allocs k (alloc 0 None) within),
    )

pub returns : goal.returns
returns c n i allocs s =
    let f = without (loc_in c.args.l) in
    let e : c.loop-c.c ≡ n = omega (arith, c.loop-c.invariant.0, s.count) in
    stands_as (c.loop-c.invariant.1 n i allocs s)
    (ap (mapped_to f allocs) e ∙ mapped_rest f allocs n (alloc 0 None) (rw s.masked.size s.masked.few) (past_same s.masked (loc_in c.args.l)))
