-- A new member's words go after those of the others, and its link where the walk for it ended. The rest is found.
use Rattle.std.proofs.Common.{◌+◌, ◌*◌, ◌≤◌, arith, length, length-set}
use Rattle.sets.proofs.Pairs.{room_for}
use Rattle.sets.proofs.Paths.{indexed_more, link_same, link_other, pair_old, pair_new}
use Rattle.sets.proofs.ReadSet.join_after.Goals as goal

pub invariant_of-self-in-Ok-2 : goal.invariant_of-self-in-Ok-2
invariant_of-self-in-Ok-2 c =
    let s = c.args.self.now in
    let ends = c.in-Ok.ensures in
    let room : s.len * 2 + 2 ≤ length s.words.now = room_for s.words.now s.len c.args.l ends.absent c.requires in
    let put_there =
    link_same s.low.now s.high.now c.in-Ok.place (s.len + 1) (omega (arith, ends.inside, room, s.links.in_low)) (omega (arith, ends.inside, room, s.links.in_high)) in
    record {
      room = rw (length-set, length-set) (omega (arith, room));
      links = simp (c.put.ensures.low, c.put.ensures.high, length-set) s.links;
      index =
          rw (c.put.ensures.low, c.put.ensures.high)
          (indexed_more s.words.now _ _ c.args.l s.index ends
          (link_other s.low.now s.high.now c.in-Ok.place (s.len + 1)) put_there
          (pair_old s.words.now s.len c.args.l room) (pair_new s.words.now s.len c.args.l room));
    }
