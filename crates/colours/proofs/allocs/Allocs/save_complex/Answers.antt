-- `colours::allocs::Allocs::save_complex` meets its contract: clear both, then give both.
use mathlib.Core.Path.{◌∙◌}
use Rattle.colours.proofs.allocs.Allocs.save_complex.Goals as goal

pub returns : goal.returns
returns c n i allocs s =
    let cleared = c.clear-2.ensures n i _ (c.clear.ensures n i allocs s) in
    let given = c.give-2.ensures n i _ (rw s.count at c.requires.y_lt_count) (c.give.ensures n i _ (rw s.count at c.requires.x_lt_count) cleared) in
    rw (c.word_of-real.ensures.location, c.word_of-imag.ensures.location ∙ c.partner.ensures) at given
