-- `mir::record::records_of` meets its contract: a chunk of eight words is the record of its number.
use Rattle.mir.specs.Records.{records, record_at}
use Rattle.mir.proofs.Records.{chunk_is}
use Rattle.mir.proofs.record.records_of.Goals as goal

pub returns : goal.returns
unfolding record_at
returns c =
    record {
      len = c.as_chunks.ensures.front_len;
      each = λ i h.
          let l = rw c.as_chunks.ensures.front_len at h in
          (l, rw c.as_chunks.ensures.front (chunk_is 8 (records c.args.list.now) i c.args.list.now l));
    }
