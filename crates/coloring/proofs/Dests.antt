-- The second walk on the lent slices: a record's destinations change what the slices of colours and ends start with as
-- `after_dests` does, and leave a mark at each end whose static was found.
-- By the laws of a slice that starts with words, destination by destination.
use Rattle.passes.specs.declared.symbol.Loc.{Loc}
use Rattle.std.specs.Prelude.{Option}
use Prim.Native.Nat.{ℕ, zero, suc, ◌+◌, ◌<◌, ◌≤◌, max}
use mathlib.Core.Bool.{Bool, true, false, cond}
use mathlib.Core.List.{List, [], ◌∷◌, ◌++◌, append-nil, append_assoc}
use mathlib.Core.Path.{◌≡◌, refl, sym, ap, subst, ◌∙◌}
use native.Mathlib.Nat.{add-zero}
use native.Mathlib.Omega.{arith}
use lib.Dec.{leb}
use lib.ListN.{length, get_or, set, length-append}
use lib.Seq.{set-get_or}
use borrow.Author.Tests.{le-leb, lt-leb}
use Rattle.mir.specs.Records.{is_gen}
use Rattle.mir.specs.Renaming.{one, gens}
use Rattle.passes.specs.declared.alloc.Alloc.{Alloc}
use Rattle.passes.specs.declared.alloc.Choice.{Choice}
use Rattle.passes.specs.declared.alloc.Choice.TheVariants.{Found, Free, Empty}
use Rattle.passes.specs.Color.{Coloring, choose, chosen, is_found, choice_for, assign, after_dest, after_dests, HasPool, HavePools, fullest_for}
use Rattle.theorems.proofs.Choice.{pool_not_empty}
use Rattle.theorems.proofs.Pool.{words}
use Rattle.mir.specs.Answers.{over}
use Rattle.colours.specs.declared.allocs.Allocs.{Allocs}
use Rattle.colours.specs.Colours.{allocs_in, Stands}
use Rattle.colours.specs.Masks.{Masked}
use Rattle.coloring.specs.Coloring.{Slices, slices, slices_in, SlicesAre, mark, dest_step, dest_steps, dest_needed, most_needed, Picks, ReadyFor, Ready, founds_for, marked}
use Rattle.mir.proofs.Over.{over_get, over_set, over_next}

pub slices_same : {a : List Alloc} {c e : List ℕ} (σ : Slices) → a ≡ σ.allocs → c ≡ σ.colours → e ≡ σ.ends → slices a c e ≡ σ
slices_same σ p q r = λ i. record { allocs = p i; colours = q i; ends = r i }

-- colours that the masks tell of stand for themselves
pub standing : {i : ℕ} {a : Allocs} → Masked a.count i a.masks (allocs_in a.lives a.locs) → Stands a.count i a (allocs_in a.lives a.locs)
standing h = record { count = refl; same = refl; masked = h }

-- what is lent is the slices that it is said to be, and the masks tell of what is lent
module _ {n i : ℕ} {σ : Slices} {a : Allocs} {cs es : List ℕ} (h : SlicesAre n i σ a cs es) where
  pub lent_are : slices_in a cs es ≡ σ
  lent_are = slices_same σ h.allocs.same h.colours h.ends

  pub lent_masked : Masked n i a.masks (allocs_in a.lives a.locs)
  lent_masked = rw h.allocs.same h.allocs.masked

-- ---- marks

pub marked_length : (fs : List Bool) (es : List ℕ) → length (marked fs es) ≡ length es
unfolding marked
marked_length [] es = refl
marked_length (f ∷ fs) [] = refl
marked_length (f ∷ fs) (e ∷ es) = ap suc (marked_length fs es)

pub marked_at : (fs : List Bool) (es : List ℕ) (k : ℕ) → k < length es → get_or (marked fs es) k 0 ≡ get_or es k 0 + mark (get_or fs k false)
unfolding marked
marked_at [] es k h = sym (add-zero (get_or es k 0))
marked_at (f ∷ fs) [] k h = absurd (omega arith)
marked_at (f ∷ fs) (e ∷ es) zero h = refl
marked_at (f ∷ fs) (e ∷ es) (suc k) h = marked_at fs es k (omega arith)

pub marked_past : (fs : List Bool) (es : List ℕ) (k : ℕ) → length fs ≤ k → get_or (marked fs es) k 0 ≡ get_or es k 0
unfolding marked
marked_past [] es k h = refl
marked_past (f ∷ fs) [] k h = refl
marked_past (f ∷ fs) (e ∷ es) zero h = absurd (omega arith)
marked_past (f ∷ fs) (e ∷ es) (suc k) h = marked_past fs es k (omega arith)

pub marked_next : (fs : List Bool) (f : Bool) (es : List ℕ) → length fs < length es
    → set (marked fs es) (length fs) (get_or es (length fs) 0 + mark f) ≡ marked (fs ++ f ∷ []) es
unfolding marked
marked_next [] f [] h = absurd (omega arith)
marked_next [] f (e ∷ es) h = refl
marked_next (g ∷ fs) f [] h = absurd (omega arith)
marked_next (g ∷ fs) f (e ∷ es) h = ap (λ r. (e + mark g) ∷ r) (marked_next fs f es (omega arith))

-- a mark shows
pub mark_shows : (e : ℕ) (f : Bool) → e < 65536 → leb 65536 (e + mark f) ≡ f
mark_shows e true h = le-leb 65536 (e + 65536) (omega arith)
mark_shows e false h = lt-leb 65536 (e + 0) (omega arith)

-- ---- a choice that has a pool picks a colour

picks : (n i : ℕ) (h : Option Loc) (st : Coloring) → HasPool n i h st → Picks (choose n i h st.allocs)
picks n i h st p = go (choose n i h st.allocs) (pool_not_empty n i h st p)
  where
    go : (k : Choice) → (k ≡ Empty → ⊥) → Picks k
    go (Found c) f = tt
    go (Free c) f = tt
    go Empty f = f refl

-- ---- one destination, by its choice

module _ (n i next w : ℕ) (held : Option Loc) (σ : Slices) where
  pub step_named : is_gen w ≡ false → dest_step n i next w held σ ≡ σ
  unfolding dest_step
  step_named g = rw g

  module _ (g : is_gen w ≡ true) {c : ℕ} where
    pub step_found : choose n i held σ.allocs ≡ Found c
        → dest_step n i next w held σ ≡ slices (assign σ.allocs c (get_or σ.ends next 0) held) (set σ.colours next c) (set σ.ends next (get_or σ.ends next 0 + 65536))
    unfolding dest_step
    step_found e = rw (g, e)

    pub step_free : choose n i held σ.allocs ≡ Free c
        → dest_step n i next w held σ ≡ slices (assign σ.allocs c (get_or σ.ends next 0) held) (set σ.colours next c) σ.ends
    unfolding dest_step
    step_free e =
        rw (g, e, add-zero (get_or σ.ends next 0), set-get_or σ.ends next 0) refl

-- what a destination asks for, of slices that are these, and of the next static
pub ready_as : (n i k w : ℕ) (held : Option Loc) {σ τ : Slices} → τ ≡ σ → {made m : ℕ} → made ≡ m → ReadyFor n i (k + m) w held σ → ReadyFor n i (k + made) w held τ
ready_as n i k w held e f h = rw (e, f) h

-- ---- destination by destination

module _ (n i : ℕ) (E C0 E0 : List ℕ) (wide : length E ≤ length C0) (small : (k : ℕ) → k < length E → get_or E k 0 < 65536) where
  -- the slices that go with a state
  abbrev pub at : Coloring → List Bool → Slices
  at st fs = slices st.allocs (over st.colours C0) (over (marked fs E) E0)

  -- the next end is not marked
  end_at : (fs : List Bool) (k : ℕ) → length fs ≤ k → k < length E → get_or (over (marked fs E) E0) k 0 ≡ get_or E k 0
  end_at fs k h l = over_get (marked fs E) E0 k 0 (rw (marked_length fs E) l) ∙ marked_past fs E k h

  dest_at : (w : ℕ) (held : Option Loc) (st : Coloring) (fs : List Bool) (next : ℕ) → next ≡ length st.colours → next ≡ length fs → next + one w ≤ length E
      → dest_step n i next w held (at st fs) ≡ at (after_dest n i E w held st) (fs ++ cond (is_gen w) (is_found (choice_for n i held st) ∷ []) [])
  unfolding dest_step after_dest
  dest_at w held st fs next e f h = go (is_gen w) h
    where
      ch : Choice
      ch = choice_for n i held st

      new : Coloring
      new =
          record {
            allocs = assign st.allocs (chosen ch) (get_or E (length st.colours) 0) held;
            colours = st.colours ++ chosen ch ∷ [];
            members = st.members;
          }

      go : (b : Bool) → next + cond b 1 0 ≤ length E
          → cond b (record {
            allocs = assign st.allocs (chosen (choose n i held st.allocs)) (get_or (over (marked fs E) E0) next 0) held;
            colours = set (over st.colours C0) next (chosen (choose n i held st.allocs));
            ends = set (over (marked fs E) E0) next (get_or (over (marked fs E) E0) next 0 + mark (is_found (choose n i held st.allocs)));
          }) (at st fs)
          ≡ at (cond b new st) (fs ++ cond b (is_found ch ∷ []) [])
      go false l = rw (append-nil fs) refl
      go true l =
          slices_same (at new (fs ++ is_found ch ∷ []))
          (ap (λ k. assign st.allocs (chosen ch) k held) (end_at fs next (omega (arith, f)) (omega arith) ∙ ap (λ k. get_or E k 0) e))
          (ap (λ k. set (over st.colours C0) k (chosen ch)) e ∙ over_next st.colours C0 (chosen ch) (omega (arith, e)))
          (ap (λ v. set (over (marked fs E) E0) next (v + mark (is_found ch))) (end_at fs next (omega (arith, f)) (omega arith))
          ∙ (over_set (marked fs E) E0 next (get_or E next 0 + mark (is_found ch)) (rw (marked_length fs E) (omega arith))
          ∙ ap (λ xs. over xs E0) (ap (λ k. set (marked fs E) k (get_or E k 0 + mark (is_found ch))) f ∙ marked_next fs (is_found ch) E (omega (arith, f)))))

  -- how many statics a destination has made
  made : (w : ℕ) (held : Option Loc) (st : Coloring) → length (after_dest n i E w held st).colours ≡ length st.colours + one w
  unfolding after_dest
  made w held st = go (is_gen w)
    where
      ch : Choice
      ch = choice_for n i held st

      new : Coloring
      new =
          record {
            allocs = assign st.allocs (chosen ch) (get_or E (length st.colours) 0) held;
            colours = st.colours ++ chosen ch ∷ [];
            members = st.members;
          }

      go : (b : Bool) → length (cond b new st).colours ≡ length st.colours + cond b 1 0
      go true = length-append st.colours (chosen ch ∷ [])
      go false = sym (add-zero (length st.colours))

  flagged : (w : ℕ) (g : Bool) (fs : List Bool) → length (fs ++ cond (is_gen w) (g ∷ []) []) ≡ length fs + one w
  flagged w g fs = go (is_gen w)
    where
      go : (b : Bool) → length (fs ++ cond b (g ∷ []) []) ≡ length fs + cond b 1 0
      go true = length-append fs (g ∷ [])
      go false = length-append fs []

  pub dests_at_lem : (ds : List (ℕ × Option Loc)) (st : Coloring) (fs : List Bool) (next : ℕ) → next ≡ length st.colours → next ≡ length fs → next + gens (words ds) ≤ length E
      → dest_steps n i next ds (at st fs) ≡ at (after_dests n i E ds st) (fs ++ founds_for n i E ds st)
  unfolding dest_steps after_dests founds_for gens words
  dests_at_lem [] st fs next e f h = rw (append-nil fs) refl
  dests_at_lem (d ∷ ds) st fs next e f h =
      let g = is_found (choice_for n i d.1 st) in
      ap (dest_steps n i (next + one d.0) ds) (dest_at d.0 d.1 st fs next e f (omega arith))
      ∙ (dests_at_lem ds (after_dest n i E d.0 d.1 st) (fs ++ cond (is_gen d.0) (g ∷ []) []) (next + one d.0)
      (ap (λ k. k + one d.0) e ∙ sym (made d.0 d.1 st)) (ap (λ k. k + one d.0) f ∙ sym (flagged d.0 g fs)) (omega arith)
      ∙ ap (at (after_dests n i E ds (after_dest n i E d.0 d.1 st))) (append_assoc fs (cond (is_gen d.0) (g ∷ []) []) (founds_for n i E ds (after_dest n i E d.0 d.1 st))))

  -- the most that a choice leaves needed is the definitions'
  pub most_at : (ds : List (ℕ × Option Loc)) (st : Coloring) (fs : List Bool) (next : ℕ) → next ≡ length st.colours → next ≡ length fs → next + gens (words ds) ≤ length E
      → most_needed n i next ds (at st fs) ≡ fullest_for n i E ds st
  unfolding most_needed fullest_for gens words
  most_at [] st fs next e f h = refl
  most_at (d ∷ ds) st fs next e f h =
      let g = is_found (choice_for n i d.1 st) in
      let after = after_dest n i E d.0 d.1 st in
      let gs = fs ++ cond (is_gen d.0) (g ∷ []) [] in
      ap (λ σ. max (dest_needed n i d.0 σ) (most_needed n i (next + one d.0) ds σ)) (dest_at d.0 d.1 st fs next e f (omega arith))
      ∙ ap (max (dest_needed n i d.0 (at after gs)))
      (most_at ds after gs (next + one d.0) (ap (λ k. k + one d.0) e ∙ sym (made d.0 d.1 st)) (ap (λ k. k + one d.0) f ∙ sym (flagged d.0 g fs)) (omega arith))

  pub ready_at : (ds : List (ℕ × Option Loc)) (st : Coloring) (fs : List Bool) (next : ℕ) → next ≡ length st.colours → next ≡ length fs → next + gens (words ds) ≤ length E
      → HavePools n i E ds st → Ready n i next ds (at st fs)
  unfolding gens words
  ready_at [] st fs next e f h p = tt
  ready_at (d ∷ ds) st fs next e f h p =
      let g = is_found (choice_for n i d.1 st) in (
        λ q.
            let l : next < length E = omega (arith, ap {B = ℕ} (λ b. cond b 1 0) q) in
            (picks n i d.1 st (p.0 q), rw (end_at fs next (omega (arith, f)) l) (small next l)),
        subst (Ready n i (next + one d.0) ds) (sym (dest_at d.0 d.1 st fs next e f (omega arith)))
            (ready_at ds (after_dest n i E d.0 d.1 st) (fs ++ cond (is_gen d.0) (g ∷ []) []) (next + one d.0)
            (ap (λ k. k + one d.0) e ∙ sym (made d.0 d.1 st)) (ap (λ k. k + one d.0) f ∙ sym (flagged d.0 g fs)) (omega arith) p.1),
      )
