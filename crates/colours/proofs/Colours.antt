-- The code's colours stand for the definitions': a read, a store, and what the words of locations say.
-- By induction on the two arrays; a word is its space and its index, by division.
use Rattle.std.specs.Prelude.{Some, None}
use Prim.Native.Nat.{ℕ, zero, suc, ◌/◌, ◌%◌, ◌<◌}
use mathlib.Core.Bool.{Bool, true, false, cond, ◌&&◌}
use mathlib.Core.List.{List, [], ◌∷◌}
use mathlib.Core.Path.{◌≡◌, refl, sym, ap, subst, ◌∙◌}
use native.Mathlib.Omega.{arith}
use lib.Dec.{eqb}
use lib.ListN.{length, get_or, set}
use borrow.Author.Tests.{ltb-true, ne_eqb, eqb-true, eqb-false}
use Rattle.mir.specs.Records.{is_gen, max_regs}
use Rattle.passes.specs.declared.alloc.Alloc.{Alloc}
use Rattle.passes.specs.declared.symbol.Loc.{Loc}
use Rattle.passes.specs.Color.{alloc, colour_at, held_by, holds, is_nothing}
use Rattle.colours.specs.declared.allocs.Allocs.{Allocs}
use Rattle.colours.specs.Colours.{nothing, loc_in, held_in, allocs_in, Stands}
use Rattle.colours.specs.Masks.{Masked}

-- ---- the words of locations

pub bare_word : (k : ℕ) → is_nothing (held_in k) ≡ eqb k nothing
bare_word k = go (eqb k nothing)
  where
    go : (b : Bool) → is_nothing (cond b None (Some (loc_in k))) ≡ b
    go true = refl
    go false = refl

pub held_word : {k : ℕ} {l : Loc} → loc_in k ≡ l → (k ≡ nothing → ⊥) → held_in k ≡ Some l
held_word {k} e some = rw (ne_eqb k nothing some) (ap Some e)

-- a word that is a location is held where the words are equal
pub holds_word : (k l : ℕ) → (l ≡ nothing → ⊥) → holds (held_in k) (loc_in l) ≡ eqb k l
holds_word k l some = go (eqb k nothing) refl
  where
    parts : (a b c : Bool) → eqb (k / 4294967296) (l / 4294967296) ≡ a → eqb (k % 4294967296) (l % 4294967296) ≡ b → eqb k l ≡ c → (a && b) ≡ c
    parts true true true e f g = refl
    parts true true false e f g =
        absurd (eqb-false k l g (omega (arith, eqb-true (k / 4294967296) (l / 4294967296) e, eqb-true (k % 4294967296) (l % 4294967296) f)))
    parts true false false e f g = refl
    parts true false true e f g = absurd (eqb-false (k % 4294967296) (l % 4294967296) f (ap (λ x. x % 4294967296) (eqb-true k l g)))
    parts false b false e f g = refl
    parts false b true e f g = absurd (eqb-false (k / 4294967296) (l / 4294967296) e (ap (λ x. x / 4294967296) (eqb-true k l g)))

    go : (b : Bool) → eqb k nothing ≡ b → holds (cond b None (Some (loc_in k))) (loc_in l) ≡ eqb k l
    go true e = sym (ne_eqb k l (λ q. some (sym q ∙ eqb-true k nothing e)))
    go false e = parts (eqb (k / 4294967296) (l / 4294967296)) (eqb (k % 4294967296) (l % 4294967296)) (eqb k l) refl refl refl

-- ---- the arrays

pub allocs_at : (lives locs : List ℕ) (c : ℕ) → c < length (allocs_in lives locs) → colour_at (allocs_in lives locs) c ≡ alloc (get_or lives c 0) (held_in (get_or locs c 0))
unfolding allocs_in
allocs_at [] locs c h = absurd (omega arith)
allocs_at (x ∷ xs) [] c h = absurd (omega arith)
allocs_at (x ∷ xs) (k ∷ ks) zero h = refl
allocs_at (x ∷ xs) (k ∷ ks) (suc c) h = allocs_at xs ks c (omega arith)

pub allocs_set : (lives locs : List ℕ) (c x k : ℕ) → allocs_in (set lives c x) (set locs c k) ≡ set (allocs_in lives locs) c (alloc x (held_in k))
unfolding allocs_in
allocs_set [] locs c x k = refl
allocs_set (y ∷ ys) [] zero x k = refl
allocs_set (y ∷ ys) [] (suc c) x k = refl
allocs_set (y ∷ ys) (j ∷ js) zero x k = refl
allocs_set (y ∷ ys) (j ∷ js) (suc c) x k = ap (λ r. alloc y (held_in j) ∷ r) (allocs_set ys js c x k)

module _ {n i : ℕ} {a : Allocs} {allocs : List Alloc} (s : Stands n i a allocs) where
  pub stands_at : (c : ℕ) → c < max_regs → colour_at allocs c ≡ alloc (get_or a.lives c 0) (held_in (get_or a.locs c 0))
  stands_at c h =
      let e = s.same in
      ap (λ r. colour_at r c) (sym e) ∙ allocs_at a.lives a.locs c (rw (e, s.masked.size) h)

  -- a state whose words are the same stands for them too
  pub stands_told : {b : Allocs} → b.count ≡ a.count → b.masks ≡ a.masks → b.lives ≡ a.lives → b.locs ≡ a.locs → Stands n i b allocs
  stands_told {b} d e f g =
      record {
        count = d ∙ s.count;
        same = ap (λ xs. allocs_in xs b.locs) f ∙ (ap (allocs_in a.lives) g ∙ s.same);
        masked = subst (λ m. Masked n i m allocs) (sym e) s.masked;
      }

  pub stands_as : {other : List Alloc} → allocs ≡ other → Stands n i a other
  stands_as e = subst (Stands n i a) e s

  -- the location of a coloured word's colour, by its word
  pub held_by_word : (w : ℕ) → (w < 256 → w < max_regs) → held_in (cond (is_gen w) (get_or a.locs w 0) nothing) ≡ held_by allocs w
  held_by_word w small = go (is_gen w) refl
    where
      go : (b : Bool) → is_gen w ≡ b → held_in (cond b (get_or a.locs w 0) nothing) ≡ cond b (colour_at allocs w).loc None
      go true g = sym (ap (λ (x : Alloc). x.loc) (stands_at w (small (ltb-true w 256 g))))
      go false g = refl
