-- Public, document 01, section 1: a list of words is a row of records of 8 words; registers, locations, settings.
use Rattle.std.specs.Prelude.{ℕ, ◌+◌, ◌*◌, ◌/◌, Bool, cond, List, [], ◌∷◌, ◌++◌, length, get_or, take, drop, ltb}
use Rattle.mir.specs.declared.config.Settings.{Settings}

-- how many records a list of words holds, and record i of it
abbrev pub records : List ℕ → ℕ
records list = length list / 8

unfoldable pub record_at : List ℕ → ℕ → List ℕ
record_at list i = take 8 (drop (i * 8) list)

-- records in a row, as a list of words
abbrev pub flat : List (List ℕ) → List ℕ
flat [] = []
flat (rec ∷ recs) = rec ++ flat recs

abbrev pub word_at : List ℕ → ℕ → ℕ
word_at rec p = get_or rec p 0

-- the most registers that a list may have
abbrev pub max_regs : ℕ
max_regs = 64

-- a register word below 256 is Gen of that number; 256 to 259 are the named registers Ret, Temp, Left and Right
abbrev pub is_gen : ℕ → Bool
is_gen w = ltb w 256

-- the fixed mark
unfoldable pub fixed_mark : Settings → ℕ
fixed_mark s = cond s.complex (2 * s.args + 16) (s.args + 16)
