-- `survey::get_dst` meets its contract: BranchIf counts its condition, any other record its destinations.
-- Each arm has the destinations that its pattern tells.
use mathlib.Core.List.{[], ◌∷◌}
use mathlib.Core.Path.{◌≡◌, sym, ◌∙◌}
use lib.ListN.{length}
use Rattle.survey.specs.Beside.{mask_of, bits}
use Rattle.mir.specs.Records.{max_regs}
use Rattle.mir.specs.Shapes.{dests}
use Rattle.survey.proofs.Masks.{branch_if_source, counts_condition, counts_dests}
use Rattle.mir.proofs.Renaming.{gens_fit_both, fits_one, dest_below, dests_below}
use Rattle.mir.proofs.Shapes.{dests_told}
use borrow.Author.Rules.{rules}
use native.Mathlib.Omega.{arith}
use Rattle.survey.proofs.get_dst.Goals as goal

pub bit-requires : goal.bit-requires
bit-requires c =
    let len : length c.args.rec.now ≡ 8 = (omega arith) in
    fits_one max_regs _ (rw (branch_if_source c.args.rec.now len c.in-17.is) at (gens_fit_both max_regs _ c.requires).1)

pub bit-requires-in-One : goal.bit-requires-in-One
bit-requires-in-One c =
    let one : dests c.args.rec.now ≡ c.in-One.x ∷ [] =
    dests_told c.dests_of.ensures c.in-One.is in
    dest_below max_regs _ c.requires one

pub two_bits-requires : goal.two_bits-requires
two_bits-requires c =
    let two : dests c.args.rec.now ≡ c.in-Two.x ∷ c.in-Two.y ∷ [] =
    dests_told c.dests_of.ensures c.in-Two.is in
    let below = dests_below max_regs _ c.requires two in
    record { x_lt_max_regs = below.0; y_lt_max_regs = below.1 }

pub returns-in-17 : goal.returns-in-17
returns-in-17 c =
    let len : length c.args.rec.now ≡ 8 = (omega arith) in
    c.bit.ensures ∙ sym (counts_condition c.args.rec.now len c.in-17.is)

pub returns-in-Nothing : goal.returns-in-Nothing
unfolding mask_of bits
returns-in-Nothing c =
    rw (counts_dests c.args.rec.now (search rules), dests_told c.dests_of.ensures c.in-Nothing.is)

pub returns-in-One : goal.returns-in-One
returns-in-One c =
    let one : dests c.args.rec.now ≡ c.in-One.x ∷ [] =
    dests_told c.dests_of.ensures c.in-One.is in
    rw (counts_dests c.args.rec.now (search rules), one) c.bit-in-One.ensures

pub returns-in-Two : goal.returns-in-Two
returns-in-Two c =
    let two : dests c.args.rec.now ≡ c.in-Two.x ∷ c.in-Two.y ∷ [] =
    dests_told c.dests_of.ensures c.in-Two.is in
    rw (counts_dests c.args.rec.now (search rules), two) c.two_bits.ensures
