-- `colours::allocs::Allocs::save` meets its contract: clear, then give.
use Rattle.colours.proofs.allocs.Allocs.save.Goals as goal

pub returns : goal.returns
returns c n i allocs s =
    rw c.word_of-word.ensures.location at (c.give.ensures n i _ (rw s.count at c.requires.x_lt_count) (c.clear.ensures n i allocs s))
