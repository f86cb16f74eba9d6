-- `colours::allocs::Allocs::allocate` meets its contract: the lowest free colour without a location, else the lowest free one.
use Prim.Native.Nat.{ℕ}
use Rattle.std.specs.Prelude.{Option, Some, None, MatchOption}
use Rattle.std.specs.Option.{option_or}
use mathlib.Core.Bool.{◌&&◌}
use mathlib.Core.Path.{◌≡◌, ◌∙◌}
use native.Mathlib.Omega.{arith}
use Rattle.passes.specs.declared.alloc.Choice.{Choice}
use Rattle.passes.specs.declared.alloc.Choice.TheVariants.{Free, Empty}
use Rattle.passes.specs.Color.{free_or, first_below, is_free, is_bare, plain_choice}
use Rattle.colours.proofs.Choices.{free_first, bare_first}
use Rattle.colours.proofs.allocs.Allocs.allocate.Goals as goal

-- a number among two options, or none
chosen_free : (p q : Option ℕ) (r : Choice) → MatchOption (option_or p q) (r ≡ Empty) (λ x. r ≡ Free x) → r ≡ free_or p (free_or q Empty)
chosen_free (Some x) q r h = h
chosen_free None (Some x) r h = h
chosen_free None None r h = h

pub returns : goal.returns
unfolding plain_choice
returns c n i allocs h =
    let free : c.lowest.result ≡ first_below (is_free i allocs) n = c.lowest.ensures ∙ free_first h in
    let bare : c.lowest-bare.result ≡ first_below (λ k. is_free i allocs k && is_bare allocs k) n = c.lowest-bare.ensures ∙ bare_first h (omega arith) (omega arith) in
    rw (← bare, ← free) (chosen_free c.lowest-bare.result c.lowest.result c.map_or.result (rw c.or.ensures at c.map_or.ensures))
