-- The four zeros behind the input stand for what is past its end.
use Rattle.console.proofs.Padded.{padded}
use Rattle.console.proofs.word.Goals as goal

pub returns : goal.returns
returns g c = padded _ _ _ _ _ c.chain.ensures.bytes c.in_ok-read_exact.ensures.bytes c.read_exact.auto.buf c.from_le_bytes.ensures
