-- The read set has no repeats, and at most two members for each record and one for each pair of the table.
-- Members are paid for: a record's own locations by the two of its record, a LoadArgs' pair by its place in the table,
-- which pays once, since a member does not join again.
use Prim.Native.Nat.{ℕ, zero, suc, ◌+◌, ◌*◌, ◌/◌, ◌≤◌, ◌<◌}
use mathlib.Core.Bool.{Bool, true, false, cond, ◌&&◌}
use mathlib.Core.List.{List, [], ◌∷◌, ◌++◌}
use mathlib.Core.Logic.{◌⊎◌, inl, inr, ⊎_elim}
use mathlib.Core.Path.{◌≡◌, refl, ap}
use native.Mathlib.Omega.{arith}
use lib.Dec.{leb}
use lib.ListN.{length, get_or}
use borrow.Author.Tests.{leb-true, eq-eqb}
use Rattle.mir.proofs.Clash.{same_or}
use Rattle.mir.specs.declared.config.Settings.{Settings}
use Rattle.mir.specs.declared.shape.Action.{Action}
use Rattle.mir.specs.declared.shape.Action.TheVariants as action
use Rattle.mir.specs.Records.{records, record_at, word_at}
use Rattle.mir.specs.Shapes.{shape_for, load_args}
use Rattle.mir.specs.Folds.{all_below}
use Rattle.mir.specs.Questions.{fields_fit, pairs_fit, space_fits, words_fit}
use Rattle.mir.proofs.Passing.{ListPasses}
use Rattle.mir.proofs.Renaming.{and_both}
use Rattle.mir.proofs.Shapes.{args_kind}
use Rattle.passes.specs.declared.symbol.Loc.{Loc}
use Rattle.passes.specs.Color.{Setup, setup, loc, pairs_from, reads, is_member, join, joined, color_to}
use Rattle.theorems.proofs.Actions.{same_action}
use Rattle.theorems.specs.Laws.{Once}
use Rattle.theorems.proofs.ReadSet.{InLocs, reads_at, members_next, member_append, member_last, joined_keeps, joined_once, joined_more, joined_grows}
use Rattle.theorems.specs.Named.{named_pairs, named_to}

-- how many places of the table hold a member
hits : List Loc → List Loc → ℕ
hits [] ms = 0
hits (t ∷ ts) ms = cond (is_member t ms) 1 0 + hits ts ms

hit_le : (b : Bool) → ◌≤◌ (cond b 1 0) 1
hit_le true = omega arith
hit_le false = omega arith

hits_most : (ts ms : List Loc) → hits ts ms ≤ length ts
unfolding hits
hits_most [] ms = omega arith
hits_most (t ∷ ts) ms = omega (arith, hit_le (is_member t ms), hits_most ts ms)

-- a set that has more members holds no fewer places
hit_more : (a b : Bool) → (a ≡ true → b ≡ true) → ◌≤◌ (cond a 1 0) (cond b 1 0)
hit_more true b h = rw (h refl) (omega arith)
hit_more false b h = omega arith

hits_more : (ts ms ks : List Loc) → ((l : Loc) → is_member l ms ≡ true → is_member l ks ≡ true) → hits ts ms ≤ hits ts ks
unfolding hits
hits_more [] ms ks h = omega arith
hits_more (t ∷ ts) ms ks h = omega (arith, hit_more (is_member t ms) (is_member t ks) (h t), hits_more ts ms ks h)

-- a location of the table that was no member pays for its place
hits_new : (ts ms ks : List Loc) (l : Loc) → InLocs l ts → is_member l ms ≡ false → is_member l ks ≡ true
    → ((k : Loc) → is_member k ms ≡ true → is_member k ks ≡ true) → hits ts ms + 1 ≤ hits ts ks
unfolding hits
hits_new [] ms ks l m a b h = absurd m
hits_new (t ∷ ts) ms ks l m a b h =
    ⊎_elim
    (λ (e : l ≡ t).
    let p : is_member t ms ≡ false = rw e at a in
    let q : is_member t ks ≡ true = rw e at b in
    rw (p, q) (omega (arith, hits_more ts ms ks h)))
    (λ (k : InLocs l ts). omega (arith, hit_more (is_member t ms) (is_member t ks) (h t), hits_new ts ms ks l k a b h)) m

-- ---- what joins is paid for

AllIn : List Loc → List Loc → Type 0
AllIn ts ls = (l : Loc) → InLocs l ls → InLocs l ts

join_paid : (ts ms : List Loc) (l : Loc) → InLocs l ts → length (join ms l) + hits ts ms ≤ length ms + hits ts (join ms l)
join_paid ts ms l m = go (is_member l ms) refl
  where
    go : (b : Bool) → is_member l ms ≡ b → length (cond b ms (ms ++ l ∷ [])) + hits ts ms ≤ length ms + hits ts (cond b ms (ms ++ l ∷ []))
    go true e = omega arith
    go false e =
        omega (
          arith,
          lib.ListN.length-append ms (l ∷ []),
          hits_new ts ms (ms ++ l ∷ []) l m e (member_last l ms []) (λ k h. member_append k ms (l ∷ []) h),
        )

-- pairs of the table pay by their places
joined_paid : (ts ms ls : List Loc) → AllIn ts ls → length (joined ms ls) + hits ts ms ≤ length ms + hits ts (joined ms ls)
unfolding joined AllIn
joined_paid ts ms [] h = omega arith
joined_paid ts ms (l ∷ ls) h =
    omega (arith, joined_paid ts (join ms l) ls (λ k m. h k (inr m)), join_paid ts ms l (h l (inl refl)))

-- other locations pay by their number
joined_counted : (ts ms ls : List Loc) → length (joined ms ls) + hits ts ms ≤ length ms + length ls + hits ts (joined ms ls)
joined_counted ts ms ls = omega (arith, joined_more ms ls, hits_more ts ms (joined ms ls) (λ l h. joined_keeps ms ls l h))

-- ---- the pairs of the table

pub pairs_length : (table : List ℕ) (first n : ℕ) → length (pairs_from table first n) ≡ n
unfolding pairs_from
pairs_length table first zero = refl
pairs_length table first (suc n) = ap suc (pairs_length table (suc first) n)

-- pair j is among the pairs from `first` on, if it lies there
pair_in : (table : List ℕ) (first n j : ℕ) → first ≤ j → j < first + n → InLocs (loc (get_or table (j * 2) 0) (get_or table (j * 2 + 1) 0)) (pairs_from table first n)
unfolding pairs_from
pair_in table first zero j h l = absurd (omega arith)
pair_in table first (suc n) j h l =
    ⊎_elim (λ (e : j ≡ first). inl (rw e)) (λ (e : j ≡ first → ⊥). inr (pair_in table (suc first) n j (omega (arith, e)) (omega arith))) (same_or j first)

pairs_in : (table : List ℕ) (from m first n : ℕ) → from ≤ first → first + n ≤ from + m → AllIn (pairs_from table from m) (pairs_from table first n)
unfolding AllIn pairs_from
pairs_in table from m first zero a b l k = absurd k
pairs_in table from m first (suc n) a b l k =
    ⊎_elim (λ (e : l ≡ loc (get_or table (first * 2) 0) (get_or table (first * 2 + 1) 0)). rw e (pair_in table from m first a (omega arith)))
    (λ (q : InLocs l (pairs_from table (suc first) n)). pairs_in table from m (suc first) n (omega arith) (omega arith) l q) k

-- a LoadArgs that passes question 6 names pairs of the table
pub args_inside : (table rec : List ℕ) → word_at rec 0 ≡ load_args → fields_fit table rec ≡ true → word_at rec 1 + word_at rec 2 ≤ length table / 2
unfolding fields_fit pairs_fit
args_inside table rec e h =
    let q = (and_both (words_fit rec (shape_for rec).most) _ h).1 in
    let f : (leb (word_at rec 1 + word_at rec 2) (length table / 2) && all_below (word_at rec 2) (space_fits table (word_at rec 1))) ≡ true = rw (eq-eqb (word_at rec 0) load_args e) at q in
    leb-true (word_at rec 1 + word_at rec 2) (length table / 2) (and_both (leb (word_at rec 1 + word_at rec 2) (length table / 2)) (all_below (word_at rec 2) (space_fits table (word_at rec 1))) f).0

-- ---- record by record

-- the table's pairs
abbrev all_pairs : List ℕ → List Loc
all_pairs table = pairs_from table 0 (length table / 2)

few_reads : (a : Action) → (a ≡ action.LoadArgs → ⊥) → (found : Bool) (l : Loc) (pairs : List Loc) (located : Bool) → length (reads a found l pairs located) ≤ 2
few_reads action.Mov h found l pairs located = omega arith
few_reads action.Load h true l pairs located = omega arith
few_reads action.Load h false l pairs located = omega arith
few_reads action.Save h found l pairs located = omega arith
few_reads action.LoadComplex h true l pairs located = omega arith
few_reads action.LoadComplex h false l pairs located = omega arith
few_reads action.SaveComplex h found l pairs located = omega arith
few_reads action.LoadArgs h found l pairs located = absurd (h refl)
few_reads action.Clear h found l pairs located = omega arith
few_reads action.Other h found l pairs true = omega arith
few_reads action.Other h found l pairs false = omega arith

module _ (s : Settings) (list table : List ℕ) (passes : ListPasses s list table) where
  -- what record i reads is paid for
  reads_paid : (i : ℕ) → i < records list → (ms : List Loc)
      → length (joined ms (reads_at (setup s list table) i)) + hits (all_pairs table) ms
      ≤ length ms + 2 + hits (all_pairs table) (joined ms (reads_at (setup s list table) i))
  unfolding reads_at
  reads_paid i inside ms =
      ⊎_elim
      (λ (e : (shape_for rec).action ≡ action.LoadArgs).
      let r : reads_at (setup s list table) i ≡ pairs_from table (word_at rec 1) (word_at rec 2) = rw e in
      rw r (omega (
        arith,
        joined_paid (all_pairs table) ms (pairs_from table (word_at rec 1) (word_at rec 2))
            (pairs_in table 0 (length table / 2) (word_at rec 1) (word_at rec 2) (omega arith) (omega (arith, named e))),
      )))
      (λ (h : (shape_for rec).action ≡ action.LoadArgs → ⊥).
      omega (arith, joined_counted (all_pairs table) ms (reads_at (setup s list table) i), few h)) (same_action (shape_for rec).action action.LoadArgs)
    where
      rec : List ℕ
      rec = record_at list i

      few : ((shape_for rec).action ≡ action.LoadArgs → ⊥) → length (reads_at (setup s list table) i) ≤ 2
      few h = few_reads (shape_for rec).action h _ _ _ _

      named : (shape_for rec).action ≡ action.LoadArgs → word_at rec 1 + word_at rec 2 ≤ length table / 2
      named e = args_inside table rec (args_kind (word_at rec 0) e) (passes.each i inside).shape.fields

  members_bound : (i : ℕ) → i ≤ records list
      → length (color_to (setup s list table) i).members ≤ i * 2 + hits (all_pairs table) (color_to (setup s list table) i).members
  unfolding color_to
  members_bound zero h = omega arith
  members_bound (suc i) h =
      rw (members_next (setup s list table) i)
      (omega (arith, members_bound i (omega arith), reads_paid i (omega arith) (color_to (setup s list table) i).members))

-- at most two members for each record, and one for each pair of the table
pub few_members : (s : Settings) (list table : List ℕ) → ListPasses s list table → (i : ℕ) → i ≤ records list
    → length (color_to (setup s list table) i).members ≤ i * 2 + length table / 2
few_members s list table passes i h =
    omega (arith, members_bound s list table passes i h, hits_most (all_pairs table) (color_to (setup s list table) i).members, pairs_length table 0 (length table / 2))

-- and at most the pairs that the LoadArgs records name, in place of those of the table
pub members_named : (u : Setup) (i : ℕ) → length (color_to u i).members ≤ i * 2 + named_to u.list i
unfolding color_to named_to reads_at
members_named u zero = omega arith
members_named u (suc i) =
    rw (members_next u i)
    (omega (arith, members_named u i, joined_more (color_to u i).members (reads_at u i), few (same_action (shape_for rec).action action.LoadArgs)))
  where
    rec : List ℕ
    rec = record_at u.list i

    few : ((shape_for rec).action ≡ action.LoadArgs) ⊎ ((shape_for rec).action ≡ action.LoadArgs → ⊥) → length (reads_at u i) ≤ 2 + named_pairs rec
    few (inl e) = rw (e, args_kind (word_at rec 0) e) (omega (arith, pairs_length u.table (word_at rec 1) (word_at rec 2)))
    few (inr h) =
        let least : length (reads_at u i) ≤ 2 = few_reads (shape_for rec).action h _ _ _ _ in
        omega (arith, least)

-- members stay
pub members_grow : (u : Setup) (i n : ℕ) → i ≤ n → length (color_to u i).members ≤ length (color_to u n).members
members_grow u i zero h =
    let e : i ≡ 0 = omega arith in
    rw e (omega arith)
members_grow u i (suc n) h = ⊎_elim
    (λ (e : i ≡ suc n). rw e (omega arith))
    (λ (e : i ≡ suc n → ⊥). rw (members_next u n) (omega (arith, members_grow u i n (omega (arith, e)), joined_grows (color_to u n).members (reads_at u n)))) (same_or i (suc n))

-- no member stands twice
pub members_once : (u : Setup) (i : ℕ) → Once (color_to u i).members
unfolding color_to
members_once u zero = tt
members_once u (suc i) = rw (members_next u i) (joined_once (color_to u i).members (reads_at u i) (members_once u i))
