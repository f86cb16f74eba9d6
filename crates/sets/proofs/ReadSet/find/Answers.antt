-- The walk's steps: it ends where there is no link, and goes on at the next bit of the key, up, past a member that is another.
use Rattle.std.proofs.Common.{ℕ, ◌-◌, arith, sym, ◌∙◌}
use Rattle.sets.proofs.Pairs.{member_found}
use Rattle.sets.proofs.Paths.{goes_up, walk_next, walk_ends}
use Rattle.sets.specs.Sets.{link}
use Rattle.sets.proofs.Bound.{passed_fewer}
use Rattle.sets.proofs.ReadSet.find.Goals as goal

pub returns-then-v-eq0 : goal.returns-then-v-eq0
returns-then-v-eq0 c = walk_ends c.args.l c.args.self.now.index c.loop-l.invariant (sym c.link-v.ensures ∙ c.if-v-eq0.true)

pub loc_at-requires : goal.loc_at-requires
loc_at-requires c = omega (arith, goes_up c.args.self.now.index c.link-v.ensures c.if-v-eq0.false)

pub returns-then-eq : goal.returns-then-eq
returns-then-eq c =
    let up = goes_up c.args.self.now.index c.link-v.ensures c.if-v-eq0.false in
    member_found c.args.self.now.words.now c.args.l (c.link-v.result - 1) c.args.self.now.len (sym (rw c.loc_at.ensures at c.if-eq.ensures)) up.1

pub overflow_mul-place : goal.overflow_mul-place
overflow_mul-place c = omega (arith, goes_up c.args.self.now.index c.link-v.ensures c.if-v-eq0.false)

pub overflow_add-place : goal.overflow_add-place
overflow_add-place c = omega (arith, goes_up c.args.self.now.index c.link-v.ensures c.if-v-eq0.false)

pub overflow_add-place-in-loop-l : goal.overflow_add-place-in-loop-l
overflow_add-place-in-loop-l c = omega (arith, goes_up c.args.self.now.index c.link-v.ensures c.if-v-eq0.false)

pub loop-l-smaller : goal.loop-l-smaller
loop-l-smaller c =
    let s = c.args.self.now in
    let w : ℕ = c.link-v.result - 1 in
    let up = goes_up s.index c.link-v.ensures c.if-v-eq0.false in
    let inside = c.loop-l.invariant.inside in
    passed_fewer s.words.now s.heads (link s.low.now s.high.now) c.args.l _ _ (link s.low.now s.high.now c.loop-l.place) w c.loop-l.bits
    (omega (arith, up, inside)) (omega (arith, c.link-v.ensures, c.if-v-eq0.false)) (sym (rw c.loc_at.ensures at c.if-eq.ensures))

pub loop-l-preserved : goal.loop-l-preserved
loop-l-preserved c =
    walk_next c.args.l c.args.self.now.index c.loop-l.invariant c.link-v.ensures c.if-v-eq0.false (sym (rw c.loc_at.ensures at c.if-eq.ensures))
