-- The records that the answer counts are in the words: a reduced file has at most 512 records.
use Rattle.std.proofs.Common.{arith, sym, length-take-le}
use Rattle.file.proofs.reduce.Promise.{few_in_file}
use Rattle.console.proofs.show.Goals as goal

pub slice_bounds-records-end : goal.slice_bounds-records-end
slice_bounds-records-end g c =
    let few = few_in_file c.reduce_file.ensures c.in-Ok.is in
    sym (length-take-le _ _ (omega (arith, few, c.records_of.ensures.len, c.reduce_file.auto.out)))
