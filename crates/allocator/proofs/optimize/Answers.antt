-- `allocator::optimize` meets its contract: what is answered and left goes by the verdict, which is the records' once questions 1 to 4 pass.
-- By what the start of an operation knows of its verdict.
use mathlib.Core.List.{[]}
use mathlib.Core.Path.{sym, ◌∙◌}
use Rattle.mir.proofs.Asked.{passed_on}
use Rattle.walks.specs.Lent.{lent}
use Rattle.walks.proofs.Leaves.{leaves_refused}
use Rattle.allocator.specs.Optimize.{lent_statics, room_in}
use Rattle.allocator.proofs.Promise.{decided, enough, promised, started, stopped}
use Rattle.allocator.proofs.sized.Written.{kept}
use Rattle.allocator.proofs.optimize.Goals as goal

pub reduce_sized-requires : goal.reduce_sized-requires
unfolding room_in
reduce_sized-requires c =
    let s = started _ c.args.settings c.args.list.now c.args.table.now (sym c.in_ok-check_start.ensures) in
    let held = lent_statics c.args.out.now c.args.statics.now c.args.set.now in
    record { started = s.anyway; roomy = enough c.args.settings c.args.list.now c.args.table.now held (sym c.has_room-room.ensures ∙ s.room_is) }

pub returns : goal.returns
unfolding room_in
returns c =
    let s = started _ c.args.settings c.args.list.now c.args.table.now (sym c.in_ok-check_start.ensures) in
    promised _ _ _ _ (rw (decided _ _ _ _ c.has_room-room.ensures s.verdict_is) c.reduce_sized.ensures)

pub returns-in_err-check_start : goal.returns-in_err-check_start
unfolding room_in
returns-in_err-check_start c =
    let v = stopped _ c.args.settings c.args.list.now c.args.table.now (sym c.in_err-check_start.ensures) in
    rw (passed_on c.from_residual.result c.from_residual.ensures.1)
    (promised _ _ _ _ (kept _ _ _ c.args.statics.now _ (leaves_refused _ _ _ (lent c.args.out.now [] [] c.args.set.now) (decided _ _ _ _ c.has_room-room.ensures v))))
