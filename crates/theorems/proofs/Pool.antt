-- The pool is never empty: on a list that passes, of any kinds, every choice that is not a found one has a free colour.
-- A colour that is needed beyond record i is owned by a register, whose static has that colour and ends with its life.
-- A register that record i writes owns none, since nothing can read its old static later. So if no colour were free,
-- there would be as many registers besides the written one as there are registers: the pigeonhole.
use Rattle.passes.specs.declared.symbol.Loc.{Loc}
use Rattle.std.specs.Prelude.{Option, Some, None}
use Prim.Native.Nat.{ℕ, suc, ◌+◌, ◌≤◌, ◌<◌, max}
use mathlib.Core.Bool.{Bool, true, false, cond}
use mathlib.Core.List.{List, [], ◌∷◌, ◌++◌}
use mathlib.Core.Logic.{◌⊎◌, inl, inr, ⊎_elim}
use mathlib.Core.Path.{◌≡◌, refl, sym, ap, subst, ◌∙◌}
use native.Mathlib.Nat.{max-eq_left, max-eq_right}
use native.Mathlib.Decide.{dec_le}
use native.Mathlib.Omega.{arith}
use lib.ListN.{length, get_or, set, length-set, length-append, get_or-append}
use lib.Seq.{get_or-set_same, get_or-set_other, get_or-append_seam}
use Rattle.passes.specs.declared.alloc.Alloc.{Alloc}
use Rattle.passes.specs.declared.alloc.Choice.{Choice}
use Rattle.passes.specs.declared.alloc.Choice.TheVariants.{Found, Free, Empty}
use borrow.Author.Tests.{le-leb, ltb-true, lt-ltb}
use lib.Dec.{ltb}
use Rattle.mir.proofs.Clash.{clash, same_or}
use Rattle.mir.proofs.Folds.{below_suc}
use Rattle.mir.proofs.Renaming.{and_both, gen_below}
use Rattle.std.specs.List.{list_all}
use Rattle.mir.specs.Questions.{gen_fits}
use Rattle.mir.specs.Records.{is_gen}
use Rattle.mir.specs.Renaming.{gens, produced}
use Rattle.passes.specs.Color.{Coloring, alloc, colour_at, is_free, is_found, choose, chosen, assign, HasPool, HavePools, word_for}
use Rattle.passes.specs.Color.{words_for, after_dest, after_dests}
use Rattle.theorems.proofs.Choice.{choose_free, choose_found, choose_empty}
use Rattle.theorems.proofs.Create.{Names, names_set, produced_old}
use Rattle.theorems.proofs.Pigeon.{no_room}

-- who owns colour c: a register below n, its static, whose colour is c and whose end is the colour's life
pub record Owner (n : ℕ) (E : List ℕ) (regs : List (Option ℕ)) (colours : List ℕ) (c life : ℕ) : Type 0 where
  pub reg : ℕ
  pub static : ℕ
  pub small : reg < n
  pub holds : get_or regs reg None ≡ Some static
  pub colour : get_or colours static 0 ≡ c
  pub end : get_or E static 0 ≡ life

-- every colour that is needed beyond i has an owner
unfoldable pub Owned : (n i : ℕ) → List ℕ → List (Option ℕ) → List ℕ → List Alloc → Type 0
Owned n i E regs colours allocs = (c : ℕ) → c < n → i < (colour_at allocs c).life → Owner n E regs colours c (colour_at allocs c).life

-- one destination: Gen register d is to get the next static
module _ (n i : ℕ) (E : List ℕ) (regs : List (Option ℕ)) (colours : List ℕ) (allocs : List Alloc) (names : Names regs (length colours))
    (owned : Owned n i E regs colours allocs) (d : ℕ) (inside : d < n) (last : (s : ℕ) → get_or regs d None ≡ Some s → get_or E s 0 ≤ i)
    (wide : n ≤ length regs) (enough : n ≤ length allocs) where
  unfolding_owned : (c : ℕ) → c < n → i < (colour_at allocs c).life → Owner n E regs colours c (colour_at allocs c).life
  unfolding Owned
  unfolding_owned = owned

  -- d owns nothing that is needed later
  not_d : (c : ℕ) → i < (colour_at allocs c).life → (o : Owner n E regs colours c (colour_at allocs c).life) → o.reg ≡ d → ⊥
  not_d c h o e = omega (arith, last o.static (rw e at o.holds), o.end)

  pub choice_given : (h : Option Loc) → choose n i h allocs ≡ Empty → ⊥
  choice_given h e = no_room n d (λ c l. (owner c l).reg) inside (λ c l. (owner c l).small) (λ c l. not_d c (choose_empty n i allocs h e c l) (owner c l)) apart
    where
      owner : (c : ℕ) → c < n → Owner n E regs colours c (colour_at allocs c).life
      owner c l = unfolding_owned c l (choose_empty n i allocs h e c l)

      apart : (a b : ℕ) (l : a < n) (k : b < n) → (owner a l).reg ≡ (owner b k).reg → a ≡ b
      apart a b l k q =
          let p = (owner a l).holds in
          let r = rw (← q) at (owner b k).holds in
          let t : (owner a l).static ≡ (owner b k).static = cc in
          sym (owner a l).colour ∙ (ap (λ (x : ℕ). get_or colours x 0) t ∙ (owner b k).colour)

  -- the colour chosen is one of the n
  pub chosen_below : (h : Option Loc) → chosen (choose n i h allocs) < n
  chosen_below h = go (choose n i h allocs) refl
    where
      go : (k : Choice) → choose n i h allocs ≡ k → chosen k < n
      go (Found c) e = (choose_found n i allocs h c e).0
      go (Free c) e = (choose_free n i allocs h c e).0
      go Empty e = absurd (choice_given h e)

  -- a static that a register other than d holds, and its colour, stay
  kept : (c life : ℕ) (k : ℕ) (o : Owner n E regs colours c life) → (o.reg ≡ d → ⊥)
      → Owner n E (set regs d (Some (length colours))) (colours ++ k ∷ []) c life
  kept c life k o h =
      record {
        reg = o.reg;
        static = o.static;
        small = o.small;
        holds = get_or-set_other regs d o.reg (Some (length colours)) None h ∙ o.holds;
        colour = get_or-append colours (k ∷ []) 0 o.static (names.below o.reg o.static o.holds) ∙ o.colour;
        end = o.end;
      }

  -- d owns the colour that it is given, where the colour's life is its static's end
  taken : (c : ℕ) → Owner n E (set regs d (Some (length colours))) (colours ++ c ∷ []) c (get_or E (length colours) 0)
  taken c =
      record {
        reg = d;
        static = length colours;
        small = inside;
        holds = get_or-set_same regs d (Some (length colours)) None (omega arith);
        colour = get_or-append_seam colours c [] 0;
        end = refl;
      }

  pub owned_after : (h : Option Loc) (c : ℕ) → c < n
      → Owned n i E (set regs d (Some (length colours))) (colours ++ c ∷ []) (assign allocs c (get_or E (length colours) 0) h)
  unfolding Owned
  owned_after h c l k m = ⊎_elim (at_c k m) (λ (g : k ≡ c → ⊥). elsewhere k m g) (same_or k c)
    where
      end : ℕ
      end = get_or E (length colours) 0

      new : Alloc
      new = alloc (max (colour_at allocs c).life end) h

      here : colour_at (set allocs c new) c ≡ new
      here = get_or-set_same allocs c new _ (omega arith)

      larger : Dec ((colour_at allocs c).life ≤ end) → i < max (colour_at allocs c).life end
          → Owner n E (set regs d (Some (length colours))) (colours ++ c ∷ []) c (max (colour_at allocs c).life end)
      larger (yes q) p = rw (max-eq_right q) (taken c)
      larger (no q) p =
          let r : max (colour_at allocs c).life end ≡ (colour_at allocs c).life = max-eq_left (omega (arith, q)) in
          let t : i < (colour_at allocs c).life = rw r at p in
          let o = unfolding_owned c l t in
          rw r (kept c (colour_at allocs c).life c o (not_d c t o))

      at_c : (k : ℕ) → k < n → k ≡ c → i < (colour_at (set allocs c new) k).life
          → Owner n E (set regs d (Some (length colours))) (colours ++ c ∷ []) k (colour_at (set allocs c new) k).life
      at_c k m e = rw (e, here) (larger (dec_le (colour_at allocs c).life end))

      elsewhere : (k : ℕ) → k < n → (k ≡ c → ⊥) → i < (colour_at (set allocs c new) k).life
          → Owner n E (set regs d (Some (length colours))) (colours ++ c ∷ []) k (colour_at (set allocs c new) k).life
      elsewhere k m g =
          rw (get_or-set_other allocs c k new (alloc 0 None) g)
          (λ p. let o = unfolding_owned k m p in kept k (colour_at allocs k).life c o (not_d k p o))

-- ---- the destinations of a record

pub produced_gen : (w : ℕ) (ws : List ℕ) (m : ℕ) (regs : List (Option ℕ)) → is_gen w ≡ true → produced (w ∷ ws) m regs ≡ produced ws (suc m) (set regs w (Some m))
unfolding produced
produced_gen w ws m regs g = rw (g, native.Mathlib.Numerals.add-one m)

pub produced_named : (w : ℕ) (ws : List ℕ) (m : ℕ) (regs : List (Option ℕ)) → is_gen w ≡ false → produced (w ∷ ws) m regs ≡ produced ws m regs
unfolding produced
produced_named w ws m regs g = rw (g, native.Mathlib.Nat.add-zero m)

pub gens_gen : (w : ℕ) (ws : List ℕ) → is_gen w ≡ true → gens (w ∷ ws) ≡ suc (gens ws)
unfolding gens
gens_gen w ws g = rw (g, native.Mathlib.Numerals.one-add (gens ws))

pub gens_named : (w : ℕ) (ws : List ℕ) → is_gen w ≡ false → gens (w ∷ ws) ≡ gens ws
unfolding gens
gens_named w ws g = rw (g, native.Mathlib.Nat.zero-add (gens ws))

unfoldable pub words : List (ℕ × Option Loc) → List ℕ
words [] = []
words (d ∷ ds) = d.0 ∷ words ds

-- every colour that was given is one of the n
unfoldable pub Below : ℕ → List ℕ → Type 0
Below n colours = (t : ℕ) → t < length colours → get_or colours t 0 < n

below_more : (n : ℕ) (colours : List ℕ) (c : ℕ) → Below n colours → c < n → Below n (colours ++ c ∷ [])
unfolding Below
below_more n colours c up h t l =
    ⊎_elim (λ (k : t < length colours). rw (get_or-append colours (c ∷ []) 0 t k) (up t k))
    (λ (k : t ≡ length colours). rw (k, get_or-append_seam colours c [] 0) h) (below_suc q)
  where
    q : t < suc (length colours)
    q = omega (arith, length-append colours (c ∷ []))

pub colour_fits : (n c : ℕ) → c < n → gen_fits n c ≡ true
colour_fits n c l = go (is_gen c)
  where
    go : (b : Bool) → cond b (ltb c n) true ≡ true
    go true = lt-ltb c n l
    go false = refl

module _ (n i : ℕ) (E : List ℕ) where
  -- what is known before the destinations ds are written; m is the next static. `gone`: a static that no register holds
  -- once they are written has its end behind it
  pub record Before (ds : List (ℕ × Option Loc)) (m : ℕ) (regs : List (Option ℕ)) (st : Coloring) : Type 0 where
    pub next : length st.colours ≡ m
    pub names : Names regs m
    pub owned : Owned n i E regs st.colours st.allocs
    pub fit : list_all (gen_fits n) (words ds) ≡ true
    pub gone : (s : ℕ) → s < m + gens (words ds) → ((r : ℕ) → get_or (produced (words ds) m regs) r None ≡ Some s → ⊥) → get_or E s 0 ≤ i
    pub wide : n ≤ length regs
    pub enough : n ≤ length st.allocs
    pub below : Below n st.colours

  -- and what is known after them
  pub record After (ds : List (ℕ × Option Loc)) (m : ℕ) (regs : List (Option ℕ)) (st : Coloring) : Type 0 where
    pub pools : HavePools n i E ds st
    pub owned : Owned n i E (produced (words ds) m regs) (after_dests n i E ds st).colours (after_dests n i E ds st).allocs
    pub next : length (after_dests n i E ds st).colours ≡ m + gens (words ds)
    pub enough : length (after_dests n i E ds st).allocs ≡ length st.allocs
    pub below : Below n (after_dests n i E ds st).colours
    pub fit : list_all (gen_fits n) (words_for n i E ds st) ≡ true

  pool_of : (h : Option Loc) (st : Coloring) → (choose n i h st.allocs ≡ Empty → ⊥) → HasPool n i h st
  pool_of h st never = go (choose n i h st.allocs) refl
    where
      go : (k : Choice) → choose n i h st.allocs ≡ k → (is_found k ≡ true) ⊎ ((c : ℕ) × (c < n) × (is_free i st.allocs c ≡ true))
      go (Found c) e = inl refl
      go (Free c) e =
          let f = choose_free n i st.allocs h c e in
          inr (c, f.0, le-leb (colour_at st.allocs c).life i f.1)
      go Empty e = absurd (never e)

  -- the colour that a destination wanted with h is given, and the state after it
  unfoldable pub colour_for : Option Loc → Coloring → ℕ
  colour_for h st = chosen (choose n i h st.allocs)

  unfoldable pub given : ℕ → Option Loc → Coloring → Coloring
  given c h st =
      record {
        allocs = assign st.allocs c (get_or E (length st.colours) 0) h;
        colours = st.colours ++ c ∷ [];
        members = st.members;
      }

  given_length : (c : ℕ) (h : Option Loc) (st : Coloring) → length (given c h st).allocs ≡ length st.allocs
  unfolding given
  given_length c h st = length-set st.allocs c _

  pub after_gen : (w : ℕ) (h : Option Loc) (st : Coloring) → is_gen w ≡ true → after_dest n i E w h st ≡ given (colour_for h st) h st
  unfolding after_dest given colour_for
  after_gen w h st g = rw g

  pub after_named : (w : ℕ) (h : Option Loc) (st : Coloring) → is_gen w ≡ false → after_dest n i E w h st ≡ st
  unfolding after_dest
  after_named w h st g = rw g

  pub afters_gen : (w : ℕ) (h : Option Loc) (ds : List (ℕ × Option Loc)) (st : Coloring) → is_gen w ≡ true
      → after_dests n i E ((w, h) ∷ ds) st ≡ after_dests n i E ds (given (colour_for h st) h st)
  unfolding after_dests
  afters_gen w h ds st g = ap (after_dests n i E ds) (after_gen w h st g)

  pub afters_named : (w : ℕ) (h : Option Loc) (ds : List (ℕ × Option Loc)) (st : Coloring) → is_gen w ≡ false → after_dests n i E ((w, h) ∷ ds) st ≡ after_dests n i E ds st
  unfolding after_dests
  afters_named w h ds st g = ap (after_dests n i E ds) (after_named w h st g)

  -- the destinations' new words
  pub words_gen : (w : ℕ) (h : Option Loc) (ds : List (ℕ × Option Loc)) (st : Coloring) → is_gen w ≡ true
      → words_for n i E ((w, h) ∷ ds) st ≡ colour_for h st ∷ words_for n i E ds (given (colour_for h st) h st)
  unfolding words_for word_for colour_for
  words_gen w h ds st g = rw (after_gen w h st g, g)

  pub words_named : (w : ℕ) (h : Option Loc) (ds : List (ℕ × Option Loc)) (st : Coloring) → is_gen w ≡ false → words_for n i E ((w, h) ∷ ds) st ≡ w ∷ words_for n i E ds st
  unfolding words_for word_for
  words_named w h ds st g = rw (after_named w h st g, g)

  module _ (w : ℕ) (h : Option Loc) (ds : List (ℕ × Option Loc)) (m : ℕ) (regs : List (Option ℕ)) (st : Coloring) (b : Before ((w, h) ∷ ds) m regs st) where
    head_fits : gen_fits n w ≡ true
    unfolding words
    head_fits = (and_both (gen_fits n w) (list_all (gen_fits n) (words ds)) b.fit).0

    tail_fits : list_all (gen_fits n) (words ds) ≡ true
    unfolding words
    tail_fits = (and_both (gen_fits n w) (list_all (gen_fits n) (words ds)) b.fit).1

    module _ (g : is_gen w ≡ true) where
      pub inside : w < n
      inside = gen_below n w head_fits (ltb-true w 256 g)

      -- the static that w holds is held by nobody once w is written
      last : (s : ℕ) → get_or regs w None ≡ Some s → get_or E s 0 ≤ i
      unfolding words
      last s e = b.gone s (omega (arith, below)) (λ r f. not_held r (rw (produced_gen w (words ds) m regs g) at f))
        where
          below : s < m
          below = b.names.below w s e

          not_held : (r : ℕ) → get_or (produced (words ds) (suc m) (set regs w (Some m))) r None ≡ Some s → ⊥
          not_held r f =
              let q = produced_old (words ds) (suc m) (set regs w (Some m)) r s (omega (arith, below)) f in
              ⊎_elim
              (λ (a : r ≡ w).
              let t = get_or-set_same regs w (Some m) None (omega (arith, inside, b.wide)) in
              let v = rw a at q in
              let u : m ≡ s = cc in
              omega (arith, below))
              (λ (a : r ≡ w → ⊥). a (b.names.once r w s (sym (get_or-set_other regs w r (Some m) None a) ∙ q) e))
              (same_or r w)

      pub never : choose n i h st.allocs ≡ Empty → ⊥
      never = choice_given n i E regs st.colours st.allocs (rw b.next b.names) b.owned w inside last b.wide b.enough h

      pub c_below : colour_for h st < n
      unfolding colour_for
      c_below = chosen_below n i E regs st.colours st.allocs (rw b.next b.names) b.owned w inside last b.wide b.enough h

      pub before_rest : Before ds (suc m) (set regs w (Some m)) (given (colour_for h st) h st)
      unfolding given words
      before_rest =
          record {
            next = length-append st.colours (colour_for h st ∷ []) ∙ rw b.next (native.Mathlib.Numerals.add-one m);
            names = names_set w m regs b.names;
            owned =
                subst (λ (k : ℕ). Owned n i E (set regs w (Some k)) (given (colour_for h st) h st).colours (given (colour_for h st) h st).allocs) b.next
                (owned_after n i E regs st.colours st.allocs (rw b.next b.names) b.owned w inside last b.wide b.enough h (colour_for h st) c_below);
            fit = tail_fits;
            gone = λ s l f. b.gone s (rw (gens_gen w (words ds) g) (omega arith)) (λ r e. f r (rw (produced_gen w (words ds) m regs g) at e));
            wide = rw length-set b.wide;
            enough = rw length-set b.enough;
            below = below_more n st.colours (colour_for h st) b.below c_below;
          }

    pub before_named : is_gen w ≡ false → Before ds m regs st
    unfolding words
    before_named g =
        record {
          next = b.next;
          names = b.names;
          owned = b.owned;
          fit = tail_fits;
          gone = λ s l f. b.gone s (rw (gens_named w (words ds) g) l) (λ r e. f r (rw (produced_named w (words ds) m regs g) at e));
          wide = b.wide;
          enough = b.enough;
          below = b.below;
        }

    -- the destinations after w, and w before them
    with_gen : (g : is_gen w ≡ true) → After ds (suc m) (set regs w (Some m)) (given (colour_for h st) h st) → After ((w, h) ∷ ds) m regs st
    unfolding words
    with_gen g up =
        let e = afters_gen w h ds st g in
        record {
          pools = (λ q. pool_of h st (never g), rw (after_gen w h st g) up.pools);
          owned = rw (e, produced_gen w (words ds) m regs g) up.owned;
          next = rw (e, gens_gen w (words ds) g) (up.next ∙ omega arith);
          enough = rw e (up.enough ∙ given_length (colour_for h st) h st);
          below = rw e up.below;
          fit = rw (words_gen w h ds st g, colour_fits n (colour_for h st) (c_below g)) up.fit;
        }

    with_named : is_gen w ≡ false → After ds m regs st → After ((w, h) ∷ ds) m regs st
    unfolding words
    with_named g up =
        let e = afters_named w h ds st g in
        record {
          pools = (λ q. clash (cc), rw (after_named w h st g) up.pools);
          owned = rw (e, produced_named w (words ds) m regs g) up.owned;
          next = rw (e, gens_named w (words ds) g) up.next;
          enough = rw e up.enough;
          below = rw e up.below;
          fit = rw (words_named w h ds st g, head_fits) up.fit;
        }

  pub walk : (ds : List (ℕ × Option Loc)) (m : ℕ) (regs : List (Option ℕ)) (st : Coloring) → Before ds m regs st → After ds m regs st
  unfolding after_dests words_for words produced gens
  walk [] m regs st b = record { pools = tt; owned = b.owned; next = b.next ∙ sym (native.Mathlib.Nat.add-zero m); enough = refl; below = b.below; fit = refl }
  walk (d ∷ ds) m regs st b = go (is_gen d.0) refl (walk ds (suc m)) (walk ds m)
    where
      go : (g : Bool) → is_gen d.0 ≡ g
          → ((regs : List (Option ℕ)) (st : Coloring) → Before ds (suc m) regs st → After ds (suc m) regs st)
          → ((regs : List (Option ℕ)) (st : Coloring) → Before ds m regs st → After ds m regs st) → After (d ∷ ds) m regs st
      go true g up same = with_gen d.0 d.1 ds m regs st b g (up _ _ (before_rest d.0 d.1 ds m regs st b g))
      go false g up same = with_named d.0 d.1 ds m regs st b g (same _ _ (before_named d.0 d.1 ds m regs st b g))
