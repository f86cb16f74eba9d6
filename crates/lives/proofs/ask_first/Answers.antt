-- `lives::ask_first` meets its contract: the first refusal among the first records is the list's.
use native.Mathlib.Omega.{arith}
use Rattle.mir.specs.Questions.{record_by, record_refusal}
use Rattle.mir.specs.Records.{records}
use Rattle.mir.proofs.Asked.{passed_on}
use Rattle.lives.proofs.Prefix.{refused_first}
use Rattle.lives.proofs.ask_first.Goals as goal

pub returns-in_err-create_records-clause-refused : goal.returns-in_err-create_records-clause-refused
unfolding record_refusal
returns-in_err-create_records-clause-refused c =
    let list = c.args.list.now in
    rw (passed_on c.from_residual.result c.from_residual.ensures.1)
    (refused_first (record_by c.args.table.now c.args.count_regs list) c.min-until.result (records list) (omega (arith, c.min-until.ensures)) c.in_err-create_records.ensures)
