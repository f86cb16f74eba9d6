-- Inner, document 02, request 3: words of bits, a bit for each colour, and what the bits say of the colours.
use Rattle.std.specs.Prelude.{ℕ, ◌/◌, ◌%◌, ◌^◌, ◌<◌, ◌≤◌, Bool, false, ◌&&◌, ◌||◌, not, List, [], ◌∷◌, ◌≡◌, leb, eqb, length, get_or}
use Rattle.mir.specs.Records.{is_gen, max_regs}
use Rattle.passes.specs.declared.alloc.Alloc.{Alloc}
use Rattle.passes.specs.Color.{is_bare, is_free}
use Rattle.colours.specs.declared.allocs.Allocs.{Allocs}
use Rattle.colours.specs.declared.masks.Masks.{Masks}

-- whether bit c of a word is set
abbrev pub has_bit : ℕ → ℕ → Bool
has_bit word c = eqb (word / 2 ^ c % 2) 1

-- at instruction i, with n colours: a bit of `held` is set exactly if its colour holds a location, and a bit of `free` exactly if
-- its colour is free; neither word has a bit of a colour from n on
pub record Masked (n i : ℕ) (m : Masks) (allocs : List Alloc) : Type 0 where
  pub few : n ≤ max_regs
  pub size : length allocs ≡ max_regs
  pub held : (c : ℕ) → has_bit m.held c ≡ not (is_bare allocs c)
  pub held_within : (c : ℕ) → n ≤ c → has_bit m.held c ≡ false
  pub free : (c : ℕ) → c < n → has_bit m.free c ≡ is_free i allocs c
  pub free_within : (c : ℕ) → n ≤ c → has_bit m.free c ≡ false

-- whether c is one of the coloured words
unfoldable pub is_in : ℕ → List ℕ → Bool
is_in c [] = false
is_in c (w ∷ ws) = (is_gen w && eqb c w) || is_in c ws

-- the colours among coloured words become free at instruction i, if their lives end there; nothing else changes
pub record Expired (a : Allocs) (ws : List ℕ) (i : ℕ) (b : Allocs) : Type 0 where
  pub count : b.count ≡ a.count
  pub held : b.masks.held ≡ a.masks.held
  pub free : (c : ℕ) → has_bit b.masks.free c ≡ (has_bit a.masks.free c || (is_in c ws && leb (get_or a.lives c 0) i))
  pub lives : b.lives ≡ a.lives
  pub locs : b.locs ≡ a.locs
