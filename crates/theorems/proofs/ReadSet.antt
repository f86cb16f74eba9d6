-- The read set: what joins it is in it from then on, it has no repeats, and a record adds to it what it reads.
-- By induction on what joins, and then on the records.
use Rattle.std.specs.Prelude.{Option}
use Prim.Native.Nat.{ℕ, zero, suc, ◌+◌, ◌-◌, ◌≤◌, ◌<◌}
use mathlib.Core.Bool.{Bool, true, false, cond, ◌||◌, not, or-true, or-false, or_assoc}
use mathlib.Core.List.{List, [], ◌∷◌, ◌++◌}
use mathlib.Core.Logic.{◌⊎◌, ⊎_elim}
use mathlib.Core.Path.{◌≡◌, refl, sym, subst, ◌∙◌}
use native.Mathlib.Nat.{zero-add, suc-add}
use native.Mathlib.Omega.{arith}
use lib.Dec.{eqb}
use lib.ListN.{length, get_or, length-append}
use Rattle.mir.specs.Records.{records, record_at, word_at, is_gen}
use Rattle.mir.specs.Shapes.{shape_for}
use Rattle.passes.specs.declared.symbol.Loc.{Loc}
use Rattle.theorems.specs.Laws.{Once}
use Rattle.passes.specs.Color.{Setup, Coloring, loc_of, same_loc, pairs_from, reads, is_member, join, joined, assign, choose, chosen}
use Rattle.passes.specs.Color.{after_dest, after_dests, dests_at, found_at, color_step, color_to}
use Rattle.passes.specs.Contract.{read_set}
use Rattle.theorems.proofs.Choice.{same_loc_lem, loc_same}

-- l is one of the locations
abbrev pub InLocs : Loc → List Loc → Type 0
InLocs l [] = ⊥
InLocs l (m ∷ ms) = (l ≡ m) ⊎ InLocs l ms

-- ---- membership

pub member_here : (l : Loc) (ms : List Loc) → is_member l (l ∷ ms) ≡ true
unfolding is_member
member_here l ms = rw (loc_same l)

member_there : (l m : Loc) (ms : List Loc) → is_member l ms ≡ true → is_member l (m ∷ ms) ≡ true
unfolding is_member
member_there l m ms h = rw h (or-true (same_loc m l))

pub member_append : (l : Loc) (ms ks : List Loc) → is_member l ms ≡ true → is_member l (ms ++ ks) ≡ true
unfolding is_member
member_append l [] ks h = cc
member_append l (m ∷ ms) ks h = go (same_loc m l) refl (member_append l ms ks)
  where
    go : (b : Bool) → same_loc m l ≡ b → (is_member l ms ≡ true → is_member l (ms ++ ks) ≡ true) → (same_loc m l || is_member l (ms ++ ks)) ≡ true
    go true e up = rw e
    go false e up = rw e (up (rw e at h))

pub member_last : (l : Loc) (ms ks : List Loc) → is_member l (ms ++ l ∷ ks) ≡ true
member_last l [] ks = member_here l ks
member_last l (m ∷ ms) ks = member_there l m (ms ++ l ∷ ks) (member_last l ms ks)

pub member_either : (k : Loc) (ms ks : List Loc) → is_member k (ms ++ ks) ≡ (is_member k ms || is_member k ks)
unfolding is_member
member_either k [] ks = refl
member_either k (m ∷ ms) ks = rw (member_either k ms ks) (sym (or_assoc (same_loc m k) (is_member k ms) (is_member k ks)))

-- one location more at the end
pub member_snoc : (k l : Loc) (ms : List Loc) → is_member k (ms ++ l ∷ []) ≡ (is_member k ms || same_loc l k)
unfolding is_member
member_snoc k l ms = rw (member_either k ms (l ∷ []), or-false (same_loc l k))

-- ---- joining

pub join_has : (ms : List Loc) (l : Loc) → is_member l (join ms l) ≡ true
join_has ms l = go (is_member l ms) refl
  where
    go : (b : Bool) → is_member l ms ≡ b → is_member l (cond b ms (ms ++ l ∷ [])) ≡ true
    go true e = e
    go false e = member_last l ms []

pub join_keeps : (ms : List Loc) (l k : Loc) → is_member k ms ≡ true → is_member k (join ms l) ≡ true
join_keeps ms l k h = go (is_member l ms)
  where
    go : (b : Bool) → is_member k (cond b ms (ms ++ l ∷ [])) ≡ true
    go true = h
    go false = member_append k ms (l ∷ []) h

pub joined_keeps : (ms ls : List Loc) (k : Loc) → is_member k ms ≡ true → is_member k (joined ms ls) ≡ true
unfolding joined
joined_keeps ms [] k h = h
joined_keeps ms (l ∷ ls) k h = joined_keeps (join ms l) ls k (join_keeps ms l k h)

pub joined_has : (ms ls : List Loc) (k : Loc) → InLocs k ls → is_member k (joined ms ls) ≡ true
unfolding joined
joined_has ms [] k h = absurd h
joined_has ms (l ∷ ls) k h =
    ⊎_elim (λ (e : k ≡ l). joined_keeps (join ms l) ls k (rw e (join_has ms l))) (λ (g : InLocs k ls). joined_has (join ms l) ls k g) h

-- ---- no repeats

or_both : (a b : Bool) → (a || b) ≡ false → (a ≡ false) × (b ≡ false)
or_both true b h = (h, cc)
or_both false b h = (refl, h)

other_way : (l m : Loc) → same_loc m l ≡ false → same_loc l m ≡ false
other_way l m h = go (same_loc l m) refl
  where
    go : (b : Bool) → same_loc l m ≡ b → b ≡ false
    go true e =
        let q = same_loc_lem l m e in
        let f : same_loc m l ≡ true = rw q (loc_same m) in
        cc
    go false e = refl

once_last : (ms : List Loc) (l : Loc) → is_member l ms ≡ false → Once ms → Once (ms ++ l ∷ [])
unfolding is_member
once_last [] l h o = (refl, tt)
once_last (m ∷ ms) l h o =
    let b = or_both (same_loc m l) (is_member l ms) h in
    (rw (member_snoc m l ms, o.0, other_way l m b.0), once_last ms l b.1 o.1)

join_once : (ms : List Loc) (l : Loc) → Once ms → Once (join ms l)
join_once ms l o = go (is_member l ms) refl
  where
    go : (b : Bool) → is_member l ms ≡ b → Once (cond b ms (ms ++ l ∷ []))
    go true e = o
    go false e = once_last ms l e o

pub joined_once : (ms ls : List Loc) → Once ms → Once (joined ms ls)
unfolding joined
joined_once ms [] o = o
joined_once ms (l ∷ ls) o = joined_once (join ms l) ls (join_once ms l o)

-- ---- how many

join_more : (ms : List Loc) (l : Loc) → length (join ms l) ≤ length ms + 1
join_more ms l = go (is_member l ms)
  where
    go : (b : Bool) → length (cond b ms (ms ++ l ∷ [])) ≤ length ms + 1
    go true = omega arith
    go false = omega (arith, length-append ms (l ∷ []))

pub joined_more : (ms ls : List Loc) → length (joined ms ls) ≤ length ms + length ls
unfolding joined
joined_more ms [] = omega arith
joined_more ms (l ∷ ls) = omega (arith, joined_more (join ms l) ls, join_more ms l)

pub join_grows : (ms : List Loc) (l : Loc) → length ms ≤ length (join ms l)
join_grows ms l = go (is_member l ms)
  where
    go : (b : Bool) → length ms ≤ length (cond b ms (ms ++ l ∷ []))
    go true = omega arith
    go false = omega (arith, length-append ms (l ∷ []))

pub joined_grows : (ms ls : List Loc) → length ms ≤ length (joined ms ls)
unfolding joined
joined_grows ms [] = omega arith
joined_grows ms (l ∷ ls) = omega (arith, join_grows ms l, joined_grows (join ms l) ls)

-- ---- record by record

module _ (n i : ℕ) (E : List ℕ) where
  dest_members : (w : ℕ) (h : Option Loc) (st : Coloring) → (after_dest n i E w h st).members ≡ st.members
  unfolding after_dest
  dest_members w h st = go (is_gen w)
    where
      go : (b : Bool)
          → (cond b
          (record {
            allocs = assign st.allocs (chosen (choose n i h st.allocs)) (get_or E (length st.colours) 0) h;
            colours = st.colours ++ chosen (choose n i h st.allocs) ∷ [];
            members = st.members;
          })
          st
          ).members
          ≡ st.members
      go true = refl
      go false = refl

  pub dests_members : (ds : List (ℕ × Option Loc)) (st : Coloring) → (after_dests n i E ds st).members ≡ st.members
  unfolding after_dests
  dests_members [] st = refl
  dests_members (d ∷ ds) st = dests_members ds (after_dest n i E d.0 d.1 st) ∙ dest_members d.0 d.1 st

module _ (u : Setup) where
  -- what record i reads
  unfoldable pub reads_at : ℕ → List Loc
  reads_at i =
      let rec = record_at u.list i in
      reads (shape_for rec).action (found_at u i (color_to u i)) (loc_of rec) (pairs_from u.table (word_at rec 1) (word_at rec 2)) (not (eqb (shape_for rec).loc 0))

  pub members_next : (i : ℕ) → (color_to u (suc i)).members ≡ joined (color_to u i).members (reads_at i)
  unfolding color_to color_step reads_at
  members_next i = rw (dests_members u.count i u.ends (dests_at u i (color_to u i)) (color_to u i))

  members_stay : (k i : ℕ) (l : Loc) → is_member l (color_to u i).members ≡ true → is_member l (color_to u (k + i)).members ≡ true
  members_stay zero i l h = rw zero-add h
  members_stay (suc k) i l h = rw (suc-add, members_next (k + i)) (joined_keeps (color_to u (k + i)).members (reads_at (k + i)) l (members_stay k i l h))

  -- a location that some record reads is in the whole read set
  pub is_read : (i : ℕ) (l : Loc) → i < records u.list → InLocs l (reads_at i) → is_member l (read_set u) ≡ true
  is_read i l h r =
      let k = records u.list - suc i in
      let e : k + suc i ≡ records u.list = omega arith in
      subst (λ (j : ℕ). is_member l (color_to u j).members ≡ true) e
      (members_stay k (suc i) l (rw (members_next i) (joined_has (color_to u i).members (reads_at i) l r)))
