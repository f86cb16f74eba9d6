-- `coloring::color` meets its contract: before each record the slices and the set are the definitions'.
-- By what `Colouring` says of a record.
use Rattle.mir.proofs.Renaming.{walked_first}
use Prim.Native.Nat.{◌/◌}
use mathlib.Core.Path.{◌≡◌, refl, sym, ◌∙◌}
use native.Mathlib.Numerals.{add-one}
use native.Mathlib.Omega.{arith}
use lib.ListN.{length}
use Rattle.passes.specs.Color.{color_to, fullest_to}
use Rattle.passes.specs.Contract.{colours_of, members_of, fullest_of}
use Rattle.coloring.specs.Coloring.{founds_to, marked}
use Rattle.coloring.proofs.Invariant.{words_few}
use Rattle.sets.proofs.Pairs.{holds_own}
use Rattle.theorems.proofs.NeverEmpty.{ready_to}
use Rattle.lives.proofs.Registers.{passing_list}
use borrow.Author.Rules.{rules}
use Rattle.coloring.proofs.color.Goals as goal

pub new-allocs-requires : goal.new-allocs-requires
new-allocs-requires c =
    (passing_list c.args.settings c.args.list.now c.args.table.now c.requires.passing).few

pub loop-i-init : goal.loop-i-init
unfolding color_to founds_to marked fullest_to
loop-i-init c =
    let own = holds_own c.args.set.now in (
      search rules,
      refl,
      record {
        called =
            record {
              passing = c.requires.passing;
              colours_room = c.requires.colours_room;
              ends_room = c.requires.ends_room;
              words_room = c.requires.set_room;
            };
        walked = walked_first c.args.list.now c.new-renaming.ensures.regs c.new-renaming.ensures.statics;
        holds = record { allocs = c.new-allocs.ensures 0; colours = refl; ends = c.requires.ends_value };
        set_holds = rw c.requires.empty at own;
      },
    )

-- ---- one turn

pub overflow_cast-now : goal.overflow_cast-now
overflow_cast-now c =
    let here = c.records_of-rec-items.ensures.each c.loop-i.i c.loop-i-test.true in
    omega (arith, here.0, words_few c.loop-i.invariant.2 here.0)

pub color_by_kind-most-requires : goal.color_by_kind-most-requires
color_by_kind-most-requires c =
    let here = c.records_of-rec-items.ensures.each c.loop-i.i c.loop-i-test.true in
    record {
      settings = c.args.settings;
      list = c.args.list.now;
      colours = c.args.colours.now;
      ends = c.args.ends.now;
      before = c.args.set.now;
      coloring = c.loop-i.invariant.2;
      within = here.0;
      here = here.1;
    }

pub loop-i-preserved : goal.loop-i-preserved
unfolding fullest_to
loop-i-preserved c =
    let here = c.records_of-rec-items.ensures.each c.loop-i.i c.loop-i-test.true in
    let turned = c.color_by_kind-most.ensures c.args.settings c.args.list.now c.args.colours.now c.args.ends.now c.args.set.now c.loop-i.invariant.2 here.0 here.1 in
    (omega (arith, here.0), rw (add-one c.loop-i.i, ← c.loop-i.invariant.1, ← turned.1) c.max-fullest.ensures, turned.0)

-- ---- after the last turn

pub returns : goal.returns
unfolding colours_of members_of fullest_of
returns c =
    let list = c.args.list.now in
    let e : c.loop-i.i ≡ length list / 8 = omega (arith, c.loop-i.invariant.0, c.records_of-rec-items.ensures.len, c.loop-i-test.false) in
    let v = rw e at c.loop-i.invariant.2 in
    let p = passing_list c.args.settings list c.args.table.now c.requires.passing in
    record {
      fullest = rw e at c.loop-i.invariant.1;
      statics = v.walked.statics_are ∙ sym (ready_to c.args.settings list c.args.table.now p (length list / 8) (omega arith)).next;
      colours = v.holds.colours;
      ends = v.holds.ends;
      set = v.set_holds;
    }
