-- `coloring::color_turn` meets its contract: the calls in their order take what is lent to the next record.
-- By what `Colouring` says of a record.
use Rattle.mir.proofs.Renaming.{walked_next}
use Prim.Native.Nat.{◌+◌, ◌-◌}
use mathlib.Core.Path.{◌≡◌, refl}
use native.Mathlib.Omega.{arith}
use Rattle.coloring.proofs.Dests.{lent_masked}
use Rattle.coloring.proofs.Invariant.{words_few, statics_few, colours_two, ends_two, record_fields, record_partner, record_space}
use Rattle.coloring.proofs.Invariant.{coloured, coloured_most, expire_gives, color_ready, color_gives, color_most, found_gives, read_room, read_gives}
use Rattle.coloring.proofs.color_turn.Goals as goal

pub expire_sources-requires : goal.expire_sources-requires
expire_sources-requires c =
    let t = c.requires.may_turn in
    let inv = t.coloring in
    record {
      kind_is = c.requires.kind_is;
      known_in = omega (arith, colours_two inv t.within);
      coloured = coloured_most inv t.within t.here;
    }

pub color_record-most-requires : goal.color_record-most-requires
color_record-most-requires c =
    let t = c.requires.may_turn in
    let inv = t.coloring in
    let at_record = expire_gives inv t.within t.here c.expire_sources.ensures in
    rw (at_record.allocs.count)
    record {
      kind_is = c.requires.kind_is;
      partner_fits = record_partner inv t.within t.here;
      space_bound = record_space inv t.within t.here;
      coloured = coloured inv t.within t.here;
      masked = lent_masked at_record;
      colours_room = colours_two inv t.within;
      ends_room = ends_two inv t.within;
      ready = color_ready inv t.within t.here at_record;
    }

pub read_record-requires : goal.read_record-requires
read_record-requires c =
    let t = c.requires.may_turn in
    let inv = t.coloring in
    let at_record = expire_gives inv t.within t.here c.expire_sources.ensures in
    let after = color_gives inv t.within t.here at_record (rw at_record.allocs.count at c.color_record-most.ensures.slices) in
    record {
      kind_is = c.requires.kind_is;
      fields_fit = record_fields inv t.within t.here;
      partner_fits = record_partner inv t.within t.here;
      next_fits = omega (arith, ends_two inv t.within, c.color_record-most.auto.ends);
      found_in_bounds = read_room inv t.within t.here (found_gives inv t.within t.here refl after);
    }

pub pass-requires : goal.pass-requires
pass-requires c =
    let t = c.requires.may_turn in
    let inv = t.coloring in
    omega (arith, statics_few inv t.within, words_few inv t.within)

pub returns : goal.returns
returns c =
    λ s list C0 E0 S0 inv l e.
    let at_record = expire_gives inv l e c.expire_sources.ensures in
    let after = color_gives inv l e at_record (rw at_record.allocs.count at c.color_record-most.ensures.slices) in
    let back : c.args.i + 1 - 1 ≡ c.args.i = omega arith in (
      record {
        called = inv.called;
        walked = walked_next inv.walked e c.pass.ensures.regs c.pass.ensures.statics;
        holds = rw back after;
        set_holds = read_gives inv l e (found_gives inv l e refl after) c.read_record.ensures;
      },
      color_most inv l e at_record (rw at_record.allocs.count at c.color_record-most.ensures.most),
    )
