-- The choices by masks are the definitions' choices.
-- A mask has the bits of the colours that are looked for, and none from the count on; a word of location is met where it is held.
use Rattle.std.specs.Prelude.{Some, None}
use Rattle.std.specs.List.{position}
use Prim.Native.Nat.{ℕ, ◌^◌, ◌<◌, ◌≤◌}
use mathlib.Core.Bool.{◌&&◌, not, not-not}
use mathlib.Core.List.{List}
use mathlib.Core.Path.{◌≡◌, sym, ap, ◌∙◌}
use native.Mathlib.Omega.{arith}
use mir.Syntax.{w64}
use Rattle.std.specs.Int.{bit_not}
use lib.Bits.{bit_and}
use lib.Dec.{eqb}
use lib.ListN.{length, get_or, take}
use borrow.Author.Tests.{ne_eqb}
use Rattle.mir.specs.Records.{max_regs}
use Rattle.passes.specs.declared.alloc.Alloc.{Alloc}
use Rattle.passes.specs.declared.alloc.Choice.TheVariants.{Found}
use Rattle.passes.specs.Color.{is_free, is_bare, holds, holds_at, first_below, found_or, plain_choice, choose}
use Rattle.colours.specs.declared.allocs.Allocs.{Allocs}
use Rattle.colours.specs.declared.masks.Masks.{Masks}
use Rattle.colours.specs.Masks.{has_bit, Masked}
use Rattle.colours.specs.Colours.{nothing, loc_in, held_in, Stands}
use Rattle.colours.proofs.Bits.{has_but}
use Rattle.colours.proofs.Colours.{holds_word, stands_at}
use Rattle.colours.proofs.Search.{first_alike, first_same, position_first}

module _ {n i : ℕ} {m : Masks} {allocs : List Alloc} (h : Masked n i m allocs) where
  pub free_first : first_below (has_bit m.free) max_regs ≡ first_below (is_free i allocs) n
  free_first = first_same (has_bit m.free) (is_free i allocs) n max_regs h.few h.free h.free_within

  module _ (free : m.free < 2 ^ max_regs) (held : m.held < 2 ^ max_regs) where
    bare_bit : (c : ℕ) → has_bit (bit_and m.free (bit_not w64 m.held)) c ≡ (has_bit m.free c && is_bare allocs c)
    bare_bit c = has_but w64 m.free m.held c free held ∙ ap (λ b. has_bit m.free c && b) (ap not (h.held c) ∙ not-not (is_bare allocs c))

    pub bare_first : first_below (has_bit (bit_and m.free (bit_not w64 m.held))) max_regs ≡ first_below (λ c. is_free i allocs c && is_bare allocs c) n
    bare_first =
        first_same (has_bit (bit_and m.free (bit_not w64 m.held))) (λ c. is_free i allocs c && is_bare allocs c) n max_regs h.few
        (λ c l. bare_bit c ∙ ap (λ b. b && is_bare allocs c) (h.free c l))
        (λ c l. bare_bit c ∙ ap (λ b. b && is_bare allocs c) (h.free_within c l))

module _ {n i : ℕ} {a : Allocs} {allocs : List Alloc} (s : Stands n i a allocs) where
  -- a word that is a location is met at the colours that hold it
  met : (l : ℕ) → (l ≡ nothing → ⊥) → (c : ℕ) → c < max_regs → eqb (get_or a.locs c 0) l ≡ holds_at allocs (loc_in l) c
  met l some c h = sym (ap (λ (x : Alloc). holds x.loc (loc_in l)) (stands_at s c h) ∙ holds_word (get_or a.locs c 0) l some)

  -- the choice for a word that is a location, by the first of the n colours that has it
  module _ (l : ℕ) (some : l ≡ nothing → ⊥) (room : n ≤ length a.locs) where
    choose_word : choose n i (held_in l) allocs ≡ found_or (position (λ held. eqb held l) (take n a.locs)) (plain_choice n i allocs)
    unfolding choose
    choose_word =
        rw (ne_eqb l nothing some, position_first (λ held. eqb held l) a.locs n room)
        (ap (λ o. found_or o (plain_choice n i allocs))
        (sym (first_alike (λ c. eqb (get_or a.locs c 0) l) (holds_at allocs (loc_in l)) n (λ c h. met l some c (omega (arith, s.masked.few))))))

    pub choose_held : {c : ℕ} → position (λ held. eqb held l) (take n a.locs) ≡ Some c → Found c ≡ choose n i (held_in l) allocs
    choose_held e = rw e at (sym choose_word)

    pub choose_unheld : position (λ held. eqb held l) (take n a.locs) ≡ None → plain_choice n i allocs ≡ choose n i (held_in l) allocs
    choose_unheld e = rw e at (sym choose_word)
