-- Inner: no promise is made in these words.
use Rattle.std.specs.Prelude.{ℕ, ◌<◌, Bool, ◌&&◌, List, [], ◌∷◌, ◌++◌, ◌≡◌, length, get_or, take, drop, Option, Some, None}
use Rattle.mir.specs.declared.shape.Dests.{Dests}
use Rattle.mir.specs.declared.shape.Dests.TheVariants.{Nothing, One, Two}
use Rattle.mir.specs.Questions.{gen_fits, named, since}
use Rattle.mir.specs.Records.{max_regs}

-- the destinations as the code hands them on
abbrev pub listed : Dests → List ℕ
listed Nothing = []
listed (One x) = x ∷ []
listed (Two x y) = x ∷ y ∷ []

-- every static that a register holds is below m
abbrev pub Known : List (Option ℕ) → ℕ → Type 0
Known regs m = (r t : ℕ) → get_or regs r None ≡ Some t → t < m

-- the same of as many registers as a list may have
pub record KnownIn (regs : List (Option ℕ)) (m : ℕ) : Type 0 where
  pub size : length regs ≡ max_regs
  pub known : Known regs m

-- questions 7, 9 and 15, of one source word
abbrev pub source_passes : ℕ → List (Option ℕ) → ℕ → ℕ → Bool
source_passes count_regs regs past w = gen_fits count_regs w && (named regs w && since past regs w)

-- a slice with a part in place of so many of its words, from a place on
abbrev pub with_part : ℕ → ℕ → List ℕ → List ℕ → List ℕ
with_part from many part words = take from words ++ (part ++ drop many (drop from words))
