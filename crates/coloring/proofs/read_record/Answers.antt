-- `coloring::read_record` meets its contract: by the action, what the record reads joins. The rest is found.
use Rattle.std.proofs.Common.{ap}
use Rattle.mir.specs.Records.{word_at}
use Rattle.mir.proofs.Shapes.{args_kind, is_complex, action_here}
use Rattle.theorems.proofs.Members.{args_inside}
use Rattle.coloring.proofs.Sources.{partner_below}
use Rattle.coloring.proofs.read_record.Goals as goal

pub insert_both-requires-clause-index_lt_any : goal.insert_both-requires-clause-index_lt_any
insert_both-requires-clause-index_lt_any c =
    let act = action_here c.args.rec.now c.shape_of-s.ensures c.requires.kind_is c.in-LoadComplex.is in
    rw c.loc_of-then-not-was_found-2.ensures (partner_below c.args.rec.now (ap is_complex act) c.requires.partner_fits)

pub extend-requires-clause-count_in_bounds : goal.extend-requires-clause-count_in_bounds
extend-requires-clause-count_in_bounds c =
    let act = action_here c.args.rec.now c.shape_of-s.ensures c.requires.kind_is c.in-LoadArgs.is in
    args_inside c.args.table.now c.args.rec.now (args_kind (word_at c.args.rec.now 0) act) c.requires.fields_fit
