use Rattle.mir.proofs.Passing.{refusal_parts}
use Rattle.mir.proofs.laws.refusal_parts.Goals as goal

pub returns : goal.returns
returns c = refusal_parts
