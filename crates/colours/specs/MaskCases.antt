-- Public: what the words and the masks say, by cases: bits at both ends of a word, words of locations at their limits, which coloured words
-- are colours; and of two colours, one with a location, what each bit of both masks must be, and that there are such masks.
use Rattle.std.specs.Prelude.{◌≡◌, true, false, List, [], ◌∷◌, replicate, Some, None}
use Rattle.passes.specs.declared.alloc.Alloc.{Alloc}
use Rattle.passes.specs.Color.{alloc, loc}
use Rattle.colours.specs.declared.masks.Masks.{Masks}
use Rattle.colours.specs.Colours.{nothing, held_in, allocs_in}
use Rattle.colours.specs.Masks.{has_bit, is_in, Masked}

pub record MaskCases : Type 0 where
  -- bit 0, bit 63, and the one past the word
  pub no_bit : has_bit 0 0 ≡ false
  pub bit_0 : has_bit 1 0 ≡ true
  pub not_bit_1 : has_bit 1 1 ≡ false
  pub not_bit_0 : has_bit 6 0 ≡ false
  pub bit_2 : has_bit 6 2 ≡ true
  pub not_bit_62 : has_bit 9223372036854775808 62 ≡ false
  pub bit_63 : has_bit 9223372036854775808 63 ≡ true
  pub all_from_0 : has_bit nothing 0 ≡ true
  pub all_to_63 : has_bit nothing 63 ≡ true
  pub none_at_64 : has_bit nothing 64 ≡ false
  -- the first and the last index of a space, the next space, the last word that is a location, and the word for none
  pub first_index : held_in 0 ≡ Some (loc 0 0)
  pub last_index : held_in 4294967295 ≡ Some (loc 0 4294967295)
  pub next_space : held_in 4294967296 ≡ Some (loc 1 0)
  pub in_param : held_in 8589934599 ≡ Some (loc 2 7)
  pub last_location : held_in 18446744073709551614 ≡ Some (loc 4294967295 4294967294)
  pub no_location : held_in 18446744073709551615 ≡ None
  -- a named register is no colour
  pub in_none : is_in 0 [] ≡ false
  pub in_one : is_in 3 (3 ∷ []) ≡ true
  pub in_last : is_in 3 (256 ∷ 4 ∷ 3 ∷ []) ≡ true
  pub not_in : is_in 3 (4 ∷ []) ≡ false
  pub last_gen : is_in 255 (255 ∷ []) ≡ true
  pub first_named : is_in 256 (256 ∷ []) ≡ false
  -- as many colours as there are lives and locations
  pub no_lives : allocs_in [] (7 ∷ []) ≡ []
  pub no_words : allocs_in (7 ∷ []) [] ≡ []
  pub two_colours : allocs_in (5 ∷ 3 ∷ []) (4294967303 ∷ 18446744073709551615 ∷ []) ≡ alloc 5 (Some (loc 1 7)) ∷ alloc 3 None ∷ []

-- ---- two colours of 64: the first is needed up to 5 and holds a location, the second up to 3

abbrev pub two : List Alloc
two = alloc 5 (Some (loc 1 7)) ∷ alloc 3 None ∷ replicate 62 (alloc 0 None)

-- the masks at instruction 4, bit by bit
pub record AtFour (m : Masks) : Type 0 where
  pub held_0 : has_bit m.held 0 ≡ true
  pub held_1 : has_bit m.held 1 ≡ false
  pub held_2 : has_bit m.held 2 ≡ false
  pub held_63 : has_bit m.held 63 ≡ false
  pub free_0 : has_bit m.free 0 ≡ false
  pub free_1 : has_bit m.free 1 ≡ true
  pub free_2 : has_bit m.free 2 ≡ false
  pub free_63 : has_bit m.free 63 ≡ false

pub record MasksTold : Type 0 where
  pub at_four : (m : Masks) → Masked 2 4 m two → AtFour m
  -- a colour is free from its life on
  pub at_two : (m : Masks) → Masked 2 2 m two → has_bit m.free 1 ≡ false
  pub at_three : (m : Masks) → Masked 2 3 m two → has_bit m.free 1 ≡ true
  pub at_five : (m : Masks) → Masked 2 5 m two → has_bit m.free 0 ≡ true
  -- and there are such masks
  pub there : Masked 2 4 (record { free = 2; held = 1 }) two
