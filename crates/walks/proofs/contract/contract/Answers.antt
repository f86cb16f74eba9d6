-- `walks::contract::contract` meets its contract: before each record the output, the ends and the counts are the
-- definitions', by what `Contracting` says of a record.
use Prim.Native.Nat.{ℕ, ◌≤◌}
use mathlib.Core.List.{List}
use mathlib.Core.Path.{refl}
use native.Mathlib.Omega.{arith}
use lib.ListN.{length}
use Rattle.mir.proofs.Renaming.{walked_first, walked_next}
use Rattle.mir.specs.declared.config.Settings.{Settings}
use Rattle.passes.specs.declared.symbol.Loc.{Loc}
use Rattle.sets.specs.Members.{members_in}
use Rattle.walks.specs.Walks.{Colored}
use Rattle.walks.proofs.contract.Invariant.{Call, contracting_first, contract_asks, contracting_next, contracted}
use Rattle.lives.proofs.Registers.{turn}
use borrow.Author.Rules.{rules}
use Rattle.walks.proofs.contract.contract.Goals as goal

-- what the walk was called with, for any settings and table that the second walk's slices are of
abbrev call_of : (list colours ends : List ℕ) (members : List Loc) (out : List ℕ) → length list ≤ length out
    → (s : Settings) (table : List ℕ) → Colored s list table colours ends members → Call
call_of list colours ends members out room_out s table colored =
    record {
      settings = s;
      list = list;
      table = table;
      colours = colours;
      ends = ends;
      members = members;
      colored = colored;
      out = out;
      room_out = room_out;
    }

pub loop-rec-init : goal.loop-rec-init
loop-rec-init c =
    let called = call_of c.args.list.now c.args.colours.now c.args.ends.now (members_in c.args.set.now) c.args.out.now c.requires.out_room in
    let walked = walked_first c.args.list.now c.new-renaming.ensures.regs c.new-renaming.ensures.statics in
    (search rules, (walked, λ s table f col. contracting_first (called s table col) {t = c.default-tally.result} c.default-tally.ensures))

-- ---- one turn: the record, and then the calls in their order

pub contract_by_kind-requires : goal.contract_by_kind-requires
contract_by_kind-requires c =
    let here = c.records_of-rec-items.ensures.each c.loop-rec.rec-index c.loop-rec-test.true in
    let own = call_of c.args.list.now c.args.colours.now c.args.ends.now (members_in c.args.set.now) c.args.out.now c.requires.out_room c.args.settings c.requires.colored.0 c.requires.colored.1 in
    let kept = c.loop-rec.invariant.1.1 c.args.settings c.requires.colored.0 c.fixed-fixed.ensures c.requires.colored.1 in
    let rest = contract_asks own kept here.0 c.loop-rec.invariant.1.0 here.1 in
    let few = turn _ (c.args.settings, c.requires.colored.0, c.requires.colored.1.passing) c.loop-rec.rec-index here.0 c.loop-rec.invariant.1.0 in
    record {
      partner_fits = rest.0;
      few = omega (arith, few);
      colours_room = rest.1;
      ends_room = rest.2;
      short = rest.3;
      out_room = rest.4;
    }

pub loop-rec-preserved : goal.loop-rec-preserved
loop-rec-preserved c =
    let here = c.records_of-rec-items.ensures.each c.loop-rec.rec-index c.loop-rec-test.true in
    let called = call_of c.args.list.now c.args.colours.now c.args.ends.now (members_in c.args.set.now) c.args.out.now c.requires.out_room in
    let inv = c.loop-rec.invariant in
    let turned = c.contract_by_kind.ensures in (
      omega (arith, here.0),
      (
        walked_next inv.1.0 here.1 turned.regs_are turned.statics_are,
        λ s table f col.
            contracting_next (called s table col) (inv.1.1 s table f col) here.0 inv.1.0 here.1
            c.fixed-fixed.result f refl turned.tally_is turned.ends_are turned.out_is,
      ),
    )

-- ---- after the last turn

pub returns : goal.returns
returns c =
    let called = call_of c.args.list.now c.args.colours.now c.args.ends.now (members_in c.args.set.now) c.args.out.now c.requires.out_room in
    let s = c.args.settings in
    λ table col.
    contracted (called s table col) (c.loop-rec.invariant.1.1 s table c.fixed-fixed.ensures col)
    (omega (arith, c.loop-rec.invariant.0, c.records_of-rec-items.ensures.len, c.loop-rec-test.false))
