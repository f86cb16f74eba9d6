-- Colours become free at a record: source by source, and then the masks tell of the colours that are free there.
-- A colour that was not free before and is free now is one of the sources'; the others' lives say the same at both records.
use Prim.Native.Nat.{ℕ, ◌<◌, ◌≤◌}
use mathlib.Core.Bool.{Bool, true, false, cond, ◌&&◌, ◌||◌, or-true, or-false, or_assoc, and-false}
use mathlib.Core.List.{List, [], ◌∷◌, ◌++◌}
use mathlib.Core.Logic.{inl, inr}
use mathlib.Core.Path.{◌≡◌, refl, sym, ap, ◌∙◌}
use native.Mathlib.Omega.{arith}
use lib.Dec.{leb, eqb}
use lib.ListN.{get_or}
use borrow.Author.Tests.{lt-ltb, le-leb, lt-leb, leb-true, leb-false, eqb-true, eq-eqb}
use Rattle.mir.specs.Records.{is_gen}
use Rattle.passes.specs.declared.alloc.Alloc.{Alloc}
use Rattle.passes.specs.Color.{colour_at}
use Rattle.theorems.proofs.Create.{In}
use Rattle.colours.specs.declared.allocs.Allocs.{Allocs}
use Rattle.colours.specs.declared.masks.Masks.{Masks}
use Rattle.colours.specs.Colours.{allocs_in, Stands}
use Rattle.colours.specs.Masks.{has_bit, is_in, Expired}
use Rattle.colours.proofs.Colours.{stands_at}

-- ---- one source

one_in : (c w : ℕ) → is_in c (w ∷ []) ≡ (is_gen w && eqb c w)
unfolding is_in
one_in c w = or-false (is_gen w && eqb c w)

module _ (a : Allocs) (w i : ℕ) where
  pub expired_named : is_gen w ≡ false → Expired a (w ∷ []) i a
  expired_named g = record { count = refl; held = refl; free = λ c. rw (one_in c w, g) (sym (or-false (has_bit a.masks.free c))); lives = refl; locs = refl }

  pub expired_later : i < get_or a.lives w 0 → Expired a (w ∷ []) i a
  expired_later h = record { count = refl; held = refl; free = λ c. rw (one_in c w) (sym (no c (eqb c w) refl)); lives = refl; locs = refl }
    where
      no : (c : ℕ) (b : Bool) → eqb c w ≡ b → (has_bit a.masks.free c || ((is_gen w && b) && leb (get_or a.lives c 0) i)) ≡ has_bit a.masks.free c
      no c true e = rw (eqb-true c w e, lt-leb (get_or a.lives w 0) i h, and-false (is_gen w && true)) (or-false (has_bit a.masks.free w))
      no c false e = rw (and-false (is_gen w)) (or-false (has_bit a.masks.free c))

  pub expired_now : is_gen w ≡ true → get_or a.lives w 0 ≤ i → {free : ℕ} → ((c : ℕ) → has_bit free c ≡ cond (eqb c w) true (has_bit a.masks.free c))
      → {b : Allocs} → b.count ≡ a.count → b.masks ≡ record a.masks { free = free } → b.lives ≡ a.lives → b.locs ≡ a.locs → Expired a (w ∷ []) i b
  expired_now g h bits count masks lives locs =
      record {
        count = count;
        held = ap (λ (m : Masks). m.held) masks;
        free = λ c. ap (λ (m : Masks). has_bit m.free c) masks ∙ (bits c ∙ rw (one_in c w, g) (set c (eqb c w) refl));
        lives = lives;
        locs = locs;
      }
    where
      set : (c : ℕ) (b : Bool) → eqb c w ≡ b → cond b true (has_bit a.masks.free c) ≡ (has_bit a.masks.free c || (b && leb (get_or a.lives c 0) i))
      set c true e = rw (eqb-true c w e, le-leb (get_or a.lives w 0) i h) (sym (or-true (has_bit a.masks.free w)))
      set c false e = sym (or-false (has_bit a.masks.free c))

-- ---- source by source

pub expired_none : (a : Allocs) (i : ℕ) → Expired a [] i a
unfolding is_in
expired_none a i = record { count = refl; held = refl; free = λ c. sym (or-false (has_bit a.masks.free c)); lives = refl; locs = refl }

in_more : (c w : ℕ) (ws : List ℕ) → is_in c (ws ++ w ∷ []) ≡ (is_in c ws || is_in c (w ∷ []))
unfolding is_in
in_more c w [] = refl
in_more c w (v ∷ ws) =
    let b = is_gen v && eqb c v in
    ap (λ x. b || x) (in_more c w ws) ∙ sym (or_assoc b (is_in c ws) (is_in c (w ∷ [])))

pub expired_more : {a b : Allocs} {ws : List ℕ} {i : ℕ} (w : ℕ) → Expired a ws i b → {d : Allocs} → Expired b (w ∷ []) i d → Expired a (ws ++ w ∷ []) i d
expired_more {a} {b} {ws} {i} w h k =
    record {
      count = k.count ∙ h.count;
      held = k.held ∙ h.held;
      free = λ c. k.free c
          ∙ (ap (λ x. x || (is_in c (w ∷ []) && leb (get_or b.lives c 0) i)) (h.free c)
          ∙ (ap (λ xs. (has_bit a.masks.free c || (is_in c ws && leb (get_or a.lives c 0) i)) || (is_in c (w ∷ []) && leb (get_or xs c 0) i)) h.lives
          ∙ (either (has_bit a.masks.free c) (is_in c ws) (is_in c (w ∷ [])) (leb (get_or a.lives c 0) i)
          ∙ ap (λ x. has_bit a.masks.free c || (x && leb (get_or a.lives c 0) i)) (sym (in_more c w ws)))));
      lives = k.lives ∙ h.lives;
      locs = k.locs ∙ h.locs;
    }
  where
    either : (f x y e : Bool) → ((f || (x && e)) || (y && e)) ≡ (f || ((x || y) && e))
    either true x y e = refl
    either false true y true = refl
    either false true y false = and-false y
    either false false y e = refl

-- ---- the masks tell of the colours at i, if they told of them at j

is_in_lem : (c : ℕ) (ws : List ℕ) → c < 256 → In c ws → is_in c ws ≡ true
unfolding is_in
is_in_lem c [] l m = absurd m
is_in_lem c (v ∷ ws) l (inl e) = rw (← e, lt-ltb c 256 l, eq-eqb c c refl)
is_in_lem c (v ∷ ws) l (inr m) = rw (is_in_lem c ws l m) (or-true (is_gen v && eqb c v))

pub expired_stands : {n j : ℕ} {a : Allocs} {allocs : List Alloc} → Stands n j a allocs → {ws : List ℕ} {i : ℕ} {b : Allocs}
    → Expired a ws i b → j ≤ i
    → ((c : ℕ) → c < n → j < (colour_at allocs c).life → (colour_at allocs c).life ≤ i → In c ws)
    → ((c : ℕ) → is_in c ws ≡ true → c < n) → Stands n i b allocs
expired_stands {n} {j} {a} {allocs} s {ws} {i} {b} e later due inside =
    record {
      count = e.count ∙ s.count;
      same = ap (λ xs. allocs_in xs b.locs) e.lives ∙ (ap (allocs_in a.lives) e.locs ∙ s.same);
      masked =
          record {
            few = s.masked.few;
            size = s.masked.size;
            held = λ c. ap (λ x. has_bit x c) e.held ∙ s.masked.held c;
            held_within = λ c l. ap (λ x. has_bit x c) e.held ∙ s.masked.held_within c l;
            free = λ c l. e.free c ∙ now c l;
            free_within = λ c l. e.free c ∙ past c l;
          };
    }
  where
    life_is : (c : ℕ) → c < n → (colour_at allocs c).life ≡ get_or a.lives c 0
    life_is c l = ap (λ (x : Alloc). x.life) (stands_at s c (omega (arith, s.masked.few)))

    now : (c : ℕ) → c < n → (has_bit a.masks.free c || (is_in c ws && leb (get_or a.lives c 0) i)) ≡ leb (colour_at allocs c).life i
    now c l = rw (s.masked.free c l, ← (life_is c l)) (go (leb (colour_at allocs c).life j) refl (leb (colour_at allocs c).life i) refl)
      where
        go : (p : Bool) → leb (colour_at allocs c).life j ≡ p → (q : Bool) → leb (colour_at allocs c).life i ≡ q → (p || (is_in c ws && q)) ≡ q
        go true p true q = refl
        go true p false q = absurd (omega (arith, leb-true (colour_at allocs c).life j p, leb-false (colour_at allocs c).life i q))
        go false p true q =
            rw (is_in_lem c ws (omega (arith, s.masked.few)) (due c l (leb-false (colour_at allocs c).life j p) (leb-true (colour_at allocs c).life i q))) refl
        go false p false q = and-false (is_in c ws)

    past : (c : ℕ) → n ≤ c → (has_bit a.masks.free c || (is_in c ws && leb (get_or a.lives c 0) i)) ≡ false
    past c l = rw (s.masked.free_within c l) (go (is_in c ws) refl)
      where
        go : (p : Bool) → is_in c ws ≡ p → (p && leb (get_or a.lives c 0) i) ≡ false
        go true p = absurd (omega (arith, inside c p))
        go false p = refl
