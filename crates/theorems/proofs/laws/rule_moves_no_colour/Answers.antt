use Rattle.theorems.proofs.SameColours.{rule_moves_no_colour}
use Rattle.theorems.proofs.laws.rule_moves_no_colour.Goals as goal

pub returns : goal.returns
returns c = rule_moves_no_colour
