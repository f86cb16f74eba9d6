-- `coloring::want_x` meets its contract: by the action.
-- The arms for several actions by what holds at each of their tags.
use Rattle.std.specs.Prelude.{None}
use mathlib.Core.List.{[], ◌∷◌}
use mathlib.Core.Logic.{⊎_elim}
use mathlib.Core.Path.{◌≡◌, refl, ap, ◌∙◌}
use native.Mathlib.Omega.{arith}
use Rattle.mir.specs.declared.shape.Action.TheVariants.{Load, LoadComplex}
use Rattle.passes.specs.Color.{held_by, want_x}
use borrow.Enum.Refused.{opened}
use Rattle.theorems.proofs.Actions.{in_arm}
use Rattle.colours.specs.Colours.{held_in}
use Rattle.colours.proofs.Colours.{held_word, held_by_word}
use Rattle.coloring.proofs.want_x.Goals as goal

pub returns-in-Mov : goal.returns-in-Mov
returns-in-Mov c n i all s =
    rw c.in-Mov.is (ap held_in c.held_by.ensures ∙ held_by_word s c.args.x (c.requires.x_lt_max_regs (rw c.in-Mov.is (omega arith))))

pub returns-in-Load : goal.returns-in-Load
returns-in-Load c n i all s =
    let h = held_word c.word_of.ensures.location c.word_of.ensures.something in
    ⊎_elim (λ (e : c.args.action ≡ Load). rw e h) (λ (e : c.args.action ≡ LoadComplex). rw e h) c.in-Load.is

pub returns-in_default : goal.returns-in_default
returns-in_default c n i all s =
    in_arm (λ k. None ≡ want_x k c.args.l (held_by all c.args.x)) (2 ∷ 4 ∷ 5 ∷ 6 ∷ 7 ∷ []) (refl, (refl, (refl, (refl, (refl, tt))))) c.args.action (opened c.in_default.in_default-own.keys3)
