-- `questions::branches::target_of` meets its contract: the kind says which word has the number.
-- By the three branches of the match.
use mathlib.Core.Path.{◌≡◌}
use borrow.Author.Rules.{rules}
use lib.ListN.{get_or}
use Rattle.mir.specs.Shapes.{branch, branch_if}
use borrow.Author.Tests.{eq-eqb, ne_eqb}
use Rattle.mir.specs.Branches.{is_branch, label_of}
use Rattle.questions.proofs.branches.target_of.Goals as goal

pub returns-in-16 : goal.returns-in-16
unfolding is_branch label_of
returns-in-16 c = rw (eq-eqb _ _ c.in-16.is)

pub returns-in-17 : goal.returns-in-17
unfolding is_branch label_of
returns-in-17 c = rw c.in-17.is

pub returns-in_default : goal.returns-in_default
unfolding is_branch label_of
returns-in_default c =
    let kind = get_or c.args.rec.now 0 0 in
    let not_branch : kind ≡ branch → ⊥ = search rules in
    let not_branch_if : kind ≡ branch_if → ⊥ = search rules in
    rw (ne_eqb _ _ not_branch, ne_eqb _ _ not_branch_if)
