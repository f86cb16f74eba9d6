-- `walks::walk` meets its contract: the walks one after the other.
-- What each walk leaves is what the next asks for.
use Rattle.std.proofs.Common.{ap, ◌∙◌, arith, length}
use Rattle.walks.proofs.Walks.{colored, counts_are, few_colours, few_in_set, ends_last}
use Rattle.walks.proofs.walk.Goals as goal

pub color-filled-requires : goal.color-filled-requires
color-filled-requires c =
    record {
      empty = c.requires.empty;
      passing = c.requires.passing;
      colours_room = c.requires.fits.for_colours;
      ends_room = c.requires.fits.for_ends;
      set_room = c.requires.fits.for_set;
      ends_value = c.requires.created;
    }

pub contract-tally-requires : goal.contract-tally-requires
contract-tally-requires c =
    let r = c.requires.fits in
    let left = c.color-filled.ensures in
    record {
      colored = (
        c.args.table.now,
        colored c.args.settings c.args.list.now c.args.table.now c.requires.passing c.args.colours.now c.args.ends.now
            (omega (arith, r.for_colours, c.color-filled.auto.colours)) (omega (arith, r.for_ends, c.color-filled.auto.ends)) left.colours left.ends left.set.members,
      );
      out_room = r.for_out;
    }

pub overflow_cast-result : goal.overflow_cast-result
overflow_cast-result c = rw c.color-filled.ensures.statics (omega (arith, few_colours c.args.settings c.args.list.now c.args.table.now c.requires.passing))

pub overflow_cast-result-2 : goal.overflow_cast-result-2
overflow_cast-result-2 c = rw (c.len.ensures, c.color-filled.ensures.set.members) (omega (arith, few_in_set c.args.settings c.args.list.now c.args.table.now c.requires.passing))

pub returns : goal.returns
returns c =
    let s = c.args.settings in
    let list = c.args.list.now in
    let table = c.args.table.now in
    let r = c.requires.fits in
    let left = c.color-filled.ensures in
    let q = c.contract-tally.ensures table (colored s list table c.requires.passing c.args.colours.now c.args.ends.now
    (omega (arith, r.for_colours, c.color-filled.auto.colours)) (omega (arith, r.for_ends, c.color-filled.auto.ends)) left.colours left.ends left.set.members) in
    record {
      same_reference = left.set.same;
      reduces =
          record {
            counts =
                counts_are s list table c.requires.passing c.contract-tally.result c.color-filled.result.statics c.len.result c.color-filled.result.fullest
                q left.statics (c.len.ensures ∙ ap length left.set.members) left.fullest;
            out = q.out_left;
            colours = left.colours;
            ends = ends_last s list table c.requires.passing c.args.ends.now c.args.ends.now c.requires.created left.ends q.ends_left;
            set = left.set.words;
          };
    }
