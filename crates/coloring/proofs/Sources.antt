-- A record's sources one by one, and its location: where the words stand, and that a location with a partner has room for it.
-- By the table of shapes.
use Prim.Native.Nat.{ℕ, suc, ◌<◌, ◌≤◌}
use mathlib.Core.Bool.{Bool, true, false, ◌&&◌, ◌||◌}
use mathlib.Core.List.{List, [], ◌∷◌, map}
use mathlib.Core.Path.{◌≡◌, refl}
use lib.Dec.{eqb}
use lib.ListN.{length, get_or, length-map}
use native.Mathlib.Omega.{arith}
use borrow.Author.Tests.{ltb-true, leb-true, eqb-true}
use Rattle.mir.specs.Questions.{fields_fit, partner_fits}
use Rattle.mir.specs.Records.{is_gen, word_at}
use Rattle.mir.proofs.Clash.{clash}
use Rattle.mir.specs.Shapes.{any, shape_of, shape_for, sources}
use Rattle.mir.proofs.Passing.{word_fits_lem}
use Rattle.mir.proofs.Shapes.{each_from, rule, is_complex, complex_kind, loc_in_record}
use Rattle.passes.specs.Color.{loc_of}
use Rattle.theorems.proofs.Lengths.{sources_length}
use Rattle.colours.specs.Colours.{sources_used}
use Rattle.colours.specs.Masks.{is_in}
use Rattle.coloring.specs.Coloring.{Coloured}

-- question 8 leaves room for the partner of a location of two halves
pub partner_below : (rec : List ℕ) → is_complex (shape_for rec).action ≡ true → partner_fits rec ≡ true → (loc_of rec).index < any
unfolding partner_fits
partner_below rec e h =
    let k = complex_kind (word_at rec 0) e in
    rw k.1 (ltb-true (word_at rec 4) any (rw k.0 at h))

-- an action looks at no more sources than the record has
pub used_sources : (k : ℕ) → sources_used (shape_of k).action ≤ (shape_of k).srcs
unfolding each_from
used_sources = rule (λ s. sources_used s.action) (λ s. s.srcs) tt tt

-- and so each that it looks at is one of the n colours, or a named register
pub used_coloured : (rec : List ℕ) → length rec ≡ 8 → (f : ℕ → ℕ) (n j : ℕ) → Coloured n (map f (sources rec)) → j < sources_used (shape_for rec).action
    → get_or (map f (sources rec)) j 0 < 256 → get_or (map f (sources rec)) j 0 < n
used_coloured rec len f n j h l = h j (rw (length-map (sources rec) f, sources_length rec len) (omega (arith, used_sources (word_at rec 0))))

-- the space of a record's location; a record without one has its kind there
pub space_below : (table rec : List ℕ) → fields_fit table rec ≡ true → (loc_of rec).space < any
unfolding each_from
space_below table rec h =
    let k = word_at rec 0 in
    let at = (shape_for rec).loc in
    let f = leb-true (word_at rec at) (get_or (shape_for rec).most at 0) (word_fits_lem table rec h at (omega (arith, loc_in_record k))) in
    omega (arith, f, rule (λ s. get_or s.most s.loc 0) (λ s. 20) tt tt k)

-- a colour among coloured words is one of the n
pub coloured_in : (n : ℕ) (ws : List ℕ) → Coloured n ws → (c : ℕ) → is_in c ws ≡ true → c < n
unfolding is_in
coloured_in n [] h c e = clash (cc)
coloured_in n (w ∷ ws) h c e = go (is_gen w) refl (eqb c w) refl e (coloured_in n ws (λ j l. h (suc j) (omega arith)) c)
  where
    go : (a : Bool) → is_gen w ≡ a → (b : Bool) → eqb c w ≡ b → ((a && b) || is_in c ws) ≡ true → (is_in c ws ≡ true → c < n) → c < n
    go true p true q f up = rw (eqb-true c w q) (h 0 (omega arith) (ltb-true w 256 p))
    go true p false q f up = up f
    go false p b q f up = up f
