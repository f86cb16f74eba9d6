-- `coloring::was_found` meets its contract: by the destinations; y's static comes after x's, which is one if x is marked.
use Prim.Native.Nat.{ℕ}
use mathlib.Core.Bool.{Bool, true, false, cond, ◌&&◌, and-true, false≢true}
use mathlib.Core.Path.{◌≡◌, refl, sym, ◌∙◌}
use Rattle.mir.proofs.Shapes.{dests_told}
use Rattle.coloring.specs.Coloring.{was_found}
use Rattle.coloring.proofs.was_found.Goals as goal

-- a marked word is Gen
one-static : (a b : Bool) → (a && b) ≡ true → cond {A = ℕ} a 1 0 ≡ 1
one-static true b e = refl
one-static false b e = absurd (false≢true e)

pub returns-in-Nothing : goal.returns-in-Nothing
unfolding was_found
returns-in-Nothing c = rw (dests_told c.dests_of.ensures c.in-Nothing.is) refl

pub returns-in-One : goal.returns-in-One
unfolding was_found
returns-in-One c = rw (dests_told c.dests_of.ensures c.in-One.is, and-true _) c.is_marked.ensures

pub returns-then-is_marked : goal.returns-then-is_marked
unfolding was_found
returns-then-is_marked c =
    let m = sym c.is_marked-in-Two.ensures ∙ c.if-is_marked.true in
    rw (dests_told c.dests_of.ensures c.in-Two.is, one-static _ _ m, m, and-true _) c.is_marked-then-is_marked.ensures

pub returns-else-is_marked : goal.returns-else-is_marked
unfolding was_found
returns-else-is_marked c =
    rw (dests_told c.dests_of.ensures c.in-Two.is, sym c.is_marked-in-Two.ensures ∙ c.if-is_marked.false) c.if-is_marked.false
