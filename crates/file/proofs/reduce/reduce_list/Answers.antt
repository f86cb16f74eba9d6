-- `file::reduce::reduce_list` meets its contract: after questions 1 to 4 the records decide.
-- A list passes these only with room, so the output is long enough.
use mathlib.Core.Path.{sym}
use Rattle.mir.proofs.Asked.{passed_on}
use Rattle.walks.proofs.Leaves.{answer_refused, left_refused}
use Rattle.allocator.proofs.Promise.{started, stopped}
use Rattle.file.proofs.reduce.reduce_list.Goals as goal

pub reduce_in_space-requires : goal.reduce_in_space-requires
reduce_in_space-requires c =
    let s = started c.args.room c.args.settings c.args.list.now c.args.table.now (sym c.in_ok-check_start.ensures) in
    record {
      list_len_bound = c.requires.list_len_bound;
      table_len_bound = c.requires.table_len_bound;
      out_room = c.requires.out_room s.room_is;
      started = s.anyway;
    }

pub returns : goal.returns
returns c =
    let s = started c.args.room c.args.settings c.args.list.now c.args.table.now (sym c.in_ok-check_start.ensures) in
    rw (s.verdict_is) c.reduce_in_space.ensures

pub returns-in_err-check_start : goal.returns-in_err-check_start
returns-in_err-check_start c =
    let v = stopped c.args.room c.args.settings c.args.list.now c.args.table.now (sym c.in_err-check_start.ensures) in
    rw (passed_on c.from_residual.result c.from_residual.ensures.1)
    record { answer = answer_refused _ _ v; out = left_refused _ _ v }
