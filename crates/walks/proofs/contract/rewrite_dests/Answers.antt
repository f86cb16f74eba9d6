-- `walks::contract::rewrite_dests` meets its contract: x is written before y, and both stand in the record.
use Prim.Native.Nat.{ℕ, ◌+◌, ◌≤◌}
use mathlib.Core.List.{List}
use mathlib.Core.Path.{◌≡◌, refl, sym, ap, ◌∙◌}
use native.Mathlib.Numerals.{add-one}
use native.Mathlib.Omega.{arith}
use lib.ListN.{length, length-set}
use Rattle.mir.specs.declared.shape.Dests.{Dests}
use Rattle.mir.specs.declared.shape.Dests.TheVariants.{One, Two}
use Rattle.mir.specs.declared.shape.Shape.{Shape}
use Rattle.mir.specs.Inner.{listed}
use Rattle.mir.specs.Shapes.{shape_for, dests}
use Rattle.mir.proofs.Shapes.{shape_here}
use Rattle.walks.specs.Walks.{dest_words}
use Rattle.walks.proofs.contract.Record.{dests_room}
use Rattle.walks.proofs.contract.rewrite_dests.Goals as goal

-- the places that are written are the record's
module _ (rec : List ℕ) {s : Shape} {d : Dests} (same : s ≡ shape_for rec) (len : length rec ≡ 8) (e : listed d ≡ dests rec) where
  room_one : {x : ℕ} → d ≡ One x → s.regs + 1 ≤ 8
  room_one is = rw (ap length (ap listed is)) at (dests_room rec s d same len e)

  room_two : {x y : ℕ} → d ≡ Two x y → s.regs + 2 ≤ 8
  room_two is = rw (ap length (ap listed is)) at (dests_room rec s d same len e)

pub offset_bounds-out-p : goal.offset_bounds-out-p
offset_bounds-out-p c =
    omega (arith, ap length c.requires.copied, room_one c.args.rec.now (shape_here c.args.rec.now c.shape_of-s.ensures c.requires.kind_is) (omega arith) c.dests_of.ensures c.in-One.is)

pub bounds-out-p : goal.bounds-out-p
bounds-out-p c =
    omega (arith, ap length c.requires.copied, room_one c.args.rec.now (shape_here c.args.rec.now c.shape_of-s.ensures c.requires.kind_is) (omega arith) c.dests_of.ensures c.in-One.is)

pub offset_bounds-out-p-in-Two : goal.offset_bounds-out-p-in-Two
offset_bounds-out-p-in-Two c =
    omega (arith, ap length c.requires.copied, room_two c.args.rec.now (shape_here c.args.rec.now c.shape_of-s.ensures c.requires.kind_is) (omega arith) c.dests_of.ensures c.in-Two.is)

pub bounds-out-p-in-Two : goal.bounds-out-p-in-Two
bounds-out-p-in-Two c =
    omega (arith, ap length c.requires.copied, room_two c.args.rec.now (shape_here c.args.rec.now c.shape_of-s.ensures c.requires.kind_is) (omega arith) c.dests_of.ensures c.in-Two.is)

pub overflow_add-out : goal.overflow_add-out
overflow_add-out c =
    omega (arith, ap length c.requires.copied, room_two c.args.rec.now (shape_here c.args.rec.now c.shape_of-s.ensures c.requires.kind_is) (omega arith) c.dests_of.ensures c.in-Two.is)

pub offset_bounds-out-p-in-Two-2 : goal.offset_bounds-out-p-in-Two-2
offset_bounds-out-p-in-Two-2 c =
    omega (arith, ap length c.requires.copied, room_two c.args.rec.now (shape_here c.args.rec.now c.shape_of-s.ensures c.requires.kind_is) (omega arith) c.dests_of.ensures c.in-Two.is)

pub bounds-out-p-in-Two-2 : goal.bounds-out-p-in-Two-2
bounds-out-p-in-Two-2 c =
    omega (
      arith,
      length-set c.args.out.now c.shape_of-s.result.regs c.dest_word-in-Two.result,
      ap length c.requires.copied,
      room_two c.args.rec.now (shape_here c.args.rec.now c.shape_of-s.ensures c.requires.kind_is) (omega arith) c.dests_of.ensures c.in-Two.is,
    )

pub returns-in-Nothing : goal.returns-in-Nothing
unfolding dest_words
returns-in-Nothing c = rw (sym c.dests_of.ensures ∙ ap listed c.in-Nothing.is) c.requires.copied

pub returns-in-One : goal.returns-in-One
unfolding dest_words
returns-in-One c =
    let same = shape_here c.args.rec.now c.shape_of-s.ensures c.requires.kind_is in
    rw (sym c.dests_of.ensures ∙ ap listed c.in-One.is, same, c.dest_word.ensures, c.requires.copied) refl

pub returns-in-Two : goal.returns-in-Two
unfolding dest_words
returns-in-Two c =
    let same = shape_here c.args.rec.now c.shape_of-s.ensures c.requires.kind_is in
    let x = c.dest_word-in-Two.ensures in
    let y = c.dest_word-in-Two-2.ensures in
    rw (sym c.dests_of.ensures ∙ ap listed c.in-Two.is, y, c.count_static.ensures, x, same, add-one, c.requires.copied) refl
