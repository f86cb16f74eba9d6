-- `coloring::want_y` meets its contract: by the action.
-- The arm for the rest by what holds at each of their tags.
use Rattle.std.specs.Prelude.{None}
use mathlib.Core.List.{[], ◌∷◌}
use mathlib.Core.Path.{◌≡◌, refl, ◌∙◌}
use Rattle.passes.specs.Color.{want_y}
use borrow.Enum.Refused.{opened}
use Rattle.theorems.proofs.Actions.{in_arm}
use Rattle.colours.proofs.Colours.{held_word}
use Rattle.coloring.proofs.want_y.Goals as goal

pub returns-in-LoadComplex : goal.returns-in-LoadComplex
returns-in-LoadComplex c =
    rw c.in-LoadComplex.is (held_word (c.word_of.ensures.location ∙ c.partner.ensures) c.word_of.ensures.something)

pub returns-in_default : goal.returns-in_default
returns-in_default c =
    in_arm (λ k. None ≡ want_y k c.args.l) (0 ∷ 1 ∷ 2 ∷ 4 ∷ 5 ∷ 6 ∷ 7 ∷ []) (refl, (refl, (refl, (refl, (refl, (refl, (refl, tt))))))) c.args.action (opened c.in_default.in_default-own.keys2)
