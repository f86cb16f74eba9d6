use Rattle.allocator.proofs.InFull.{optimized_words_in_full}
use Rattle.allocator.proofs.laws.optimized_words_in_full.Goals as goal

pub returns : goal.returns
returns c = optimized_words_in_full
