-- Each step keeps the relation between the code's state and the definitions' colours: one colour set, a location cleared, all reset.
-- Bit by bit: a mask has the new bit where the colour is set, and what it had elsewhere.

use Rattle.std.specs.Prelude.{Option, Some, None}
use Prim.Native.Nat.{ℕ, ◌<◌, ◌≤◌, max}
use mathlib.Core.Bool.{Bool, true, false, cond, not}
use mathlib.Core.List.{List}
use mathlib.Core.Path.{◌≡◌, refl, sym, ap, subst, ◌∙◌}
use native.Mathlib.Omega.{arith}
use lib.Dec.{leb, ltb, eqb}
use lib.ListN.{length, get_or, set, replicate, length-set}
use lib.Seq.{get_or-set_same, get_or-set_other, set-get_or}
use borrow.Author.Tests.{eqb-true, eqb-false, eq-eqb, ne_eqb, lt-ltb, le-ltb, le-leb, not-false}
use Rattle.mir.specs.Records.{max_regs}
use Rattle.mir.proofs.Clash.{clash}
use Rattle.passes.specs.declared.alloc.Alloc.{Alloc}
use Rattle.passes.specs.declared.symbol.Loc.{Loc}
use Rattle.passes.specs.Color.{alloc, colour_at, blank, is_free, is_bare, is_nothing, holds, assign, without}
use Rattle.theorems.proofs.Locations.{blank_life, blank_nothing}
use Rattle.colours.specs.declared.allocs.Allocs.{Allocs}
use Rattle.colours.specs.declared.masks.Masks.{Masks}
use Rattle.colours.specs.Masks.{has_bit, Masked}
use Rattle.colours.specs.Colours.{nothing, loc_in, held_in, allocs_in, Stands}
use Rattle.colours.proofs.Bits.{has_none}
use Rattle.colours.proofs.Colours.{bare_word, holds_word, allocs_set, stands_at, stands_told}

-- ---- one colour is set

module _ {n i : ℕ} {a : Allocs} {allocs : List Alloc} (s : Stands n i a allocs) (c x k : ℕ) (inside : c < n) (r : Masks)
    (free : (j : ℕ) → has_bit r.free j ≡ cond (eqb j c) (leb x i) (has_bit a.masks.free j))
    (held : (j : ℕ) → has_bit r.held j ≡ cond (eqb j c) (not (eqb k nothing)) (has_bit a.masks.held j)) where
  abbrev new : Alloc
  new = alloc x (held_in k)

  within : c < length allocs
  within = omega (arith, s.masked.size, s.masked.few)

  here : colour_at (set allocs c new) c ≡ new
  here = get_or-set_same allocs c new (alloc 0 None) within

  elsewhere : (j : ℕ) → (j ≡ c → ⊥) → colour_at (set allocs c new) j ≡ colour_at allocs j
  elsewhere j h = get_or-set_other allocs c j new (alloc 0 None) h

  held_set : (j : ℕ) → has_bit r.held j ≡ not (is_bare (set allocs c new) j)
  held_set j = held j ∙ go (eqb j c) refl
    where
      go : (b : Bool) → eqb j c ≡ b → cond b (not (eqb k nothing)) (has_bit a.masks.held j) ≡ not (is_bare (set allocs c new) j)
      go true e = rw (eqb-true j c e, here) (ap not (sym (bare_word k)))
      go false e = rw (elsewhere j (eqb-false j c e)) (s.masked.held j)

  free_set : (j : ℕ) → j < n → has_bit r.free j ≡ is_free i (set allocs c new) j
  free_set j l = free j ∙ go (eqb j c) refl
    where
      go : (b : Bool) → eqb j c ≡ b → cond b (leb x i) (has_bit a.masks.free j) ≡ is_free i (set allocs c new) j
      go true e = rw (eqb-true j c e, here)
      go false e = rw (elsewhere j (eqb-false j c e)) (s.masked.free j l)

  past : (j : ℕ) → n ≤ j → eqb j c ≡ false
  past j l = ne_eqb j c (λ e. omega (arith, e))

  pub stands_set : Stands n i (record a { masks = r; lives = set a.lives c x; locs = set a.locs c k }) (set allocs c (alloc x (held_in k)))
  stands_set =
      record {
        count = s.count;
        same = allocs_set a.lives a.locs c x k ∙ ap (λ xs. set xs c new) s.same;
        masked =
            record {
              few = s.masked.few;
              size = length-set allocs c new ∙ s.masked.size;
              held = held_set;
              held_within = λ j l. held j ∙ rw (past j l) (s.masked.held_within j l);
              free = free_set;
              free_within = λ j l. free j ∙ rw (past j l) (s.masked.free_within j l);
            };
      }

-- a colour is given to a static: its life becomes the larger, and it holds what was wanted
pub stands_given : {n i : ℕ} {a : Allocs} {allocs : List Alloc} → Stands n i a allocs → (c end want : ℕ) → c < n → {life : ℕ} → life ≡ max (get_or a.lives c 0) end
    → (r : Masks) → ((j : ℕ) → has_bit r.free j ≡ cond (eqb j c) (leb life i) (has_bit a.masks.free j))
    → ((j : ℕ) → has_bit r.held j ≡ cond (eqb j c) (not (eqb want nothing)) (has_bit a.masks.held j))
    → {b : Allocs} → b.count ≡ a.count → b.masks ≡ r → b.lives ≡ set a.lives c life → b.locs ≡ set a.locs c want → Stands n i b (assign allocs c end (held_in want))
stands_given {allocs = allocs} s c end want inside {life} e r free held count masks lives locs =
    let larger : life ≡ max (colour_at allocs c).life end = e ∙ ap (λ (x : Alloc). max x.life end) (sym (stands_at s c (omega (arith, inside, s.masked.few)))) in
    rw (← larger) (stands_told (stands_set s c life want inside r free held) count masks lives locs)

-- ---- the location of one colour is set, and its life stays

module _ {n i : ℕ} {a : Allocs} {allocs : List Alloc} (s : Stands n i a allocs) (c : ℕ) (inside : c < n) where
  life_is : (colour_at allocs c).life ≡ get_or a.lives c 0
  life_is = ap (λ (x : Alloc). x.life) (stands_at s c (omega (arith, s.masked.few)))

  loc_is : (colour_at allocs c).loc ≡ held_in (get_or a.locs c 0)
  loc_is = ap (λ (x : Alloc). x.loc) (stands_at s c (omega (arith, s.masked.few)))

  free_stays : (j : ℕ) → has_bit a.masks.free j ≡ cond (eqb j c) (leb (get_or a.lives c 0) i) (has_bit a.masks.free j)
  free_stays j = go (eqb j c) refl
    where
      go : (b : Bool) → eqb j c ≡ b → has_bit a.masks.free j ≡ cond b (leb (get_or a.lives c 0) i) (has_bit a.masks.free j)
      go true e = rw (eqb-true j c e) (s.masked.free c inside ∙ ap (λ x. leb x i) life_is)
      go false e = refl

  pub stands_loc : (k : ℕ) {held : ℕ} → ((j : ℕ) → has_bit held j ≡ cond (eqb j c) (not (eqb k nothing)) (has_bit a.masks.held j))
      → Stands n i (record a { masks = record a.masks { held = held }; locs = set a.locs c k }) (set allocs c (alloc (colour_at allocs c).life (held_in k)))
  stands_loc k {held} bits =
      let r : Masks = record a.masks { held = held } in
      rw life_is
      (subst (λ xs. Stands n i (record a { masks = r; lives = xs; locs = set a.locs c k }) (set allocs c (alloc (get_or a.lives c 0) (held_in k)))) (set-get_or a.lives c 0)
      (stands_set s c (get_or a.lives c 0) k inside r free_stays bits))

  -- clearing a location from the colour, where it holds it and where not
  module _ (l : ℕ) (some : l ≡ nothing → ⊥) where
    holds_is : holds (colour_at allocs c).loc (loc_in l) ≡ eqb (get_or a.locs c 0) l
    holds_is = ap (λ h. holds h (loc_in l)) loc_is ∙ holds_word (get_or a.locs c 0) l some

    pub cleared : get_or a.locs c 0 ≡ l → {held : ℕ} → ((j : ℕ) → has_bit held j ≡ cond (eqb j c) false (has_bit a.masks.held j))
        → Stands n i (record a { masks = record a.masks { held = held }; locs = set a.locs c nothing }) (set allocs c (without (loc_in l) (colour_at allocs c)))
    cleared e bits = rw (holds_is ∙ eq-eqb (get_or a.locs c 0) l e) (stands_loc nothing bits)

    pub not_cleared : (get_or a.locs c 0 ≡ l → ⊥) → Stands n i a (set allocs c (without (loc_in l) (colour_at allocs c)))
    not_cleared h = rw (holds_is ∙ ne_eqb (get_or a.locs c 0) l h) (rw (set-get_or allocs c (alloc 0 None)) s)

-- ---- clearing a location from the n colours is clearing it from all: the others hold none

not_held : (h : Option Loc) (l : Loc) → is_nothing h ≡ true → holds h l ≡ false
not_held None l e = refl
not_held (Some m) l e = clash (cc)

pub past_same : {n i : ℕ} {m : Masks} {allocs : List Alloc} → Masked n i m allocs → (l : Loc) (j : ℕ) → n ≤ j → without l (colour_at allocs j) ≡ colour_at allocs j
past_same {allocs = allocs} h l j q =
    rw (not_held (colour_at allocs j).loc l (not-false (is_bare allocs j) (sym (h.held j) ∙ h.held_within j q))) refl

-- ---- all colours reset

pub stands_blank : {n : ℕ} (few : n ≤ max_regs) (i : ℕ) {free : ℕ} → ((j : ℕ) → has_bit free j ≡ ltb j n)
    → Stands n i (record { count = n; masks = record { free = free; held = 0 }; lives = replicate max_regs 0; locs = replicate max_regs nothing; few = few }) blank
unfolding allocs_in
stands_blank {n} few i bits =
    record {
      count = refl;
      same = refl;
      masked =
          record {
            few = few;
            size = refl;
            held = λ j. has_none j ∙ sym (ap (λ h. not (is_nothing h)) (blank_nothing j));
            held_within = λ j l. has_none j;
            free = λ j l. bits j ∙ (lt-ltb j n l ∙ sym (ap (λ x. leb x i) (blank_life j) ∙ le-leb 0 i (omega arith)));
            free_within = λ j l. bits j ∙ le-ltb j n l;
          };
    }
