-- Locations as pairs of words: reading them back, one more of them, whether one is among them.
-- By induction on the number of pairs; a list without its first two words has the pairs from the second on.
use Prim.Native.Nat.{ℕ, zero, suc, ◌+◌, ◌*◌, ◌-◌, ◌<◌, ◌≤◌}
use mathlib.Core.Bool.{true, false, or-true}
use mathlib.Core.List.{List, [], ◌∷◌, ◌++◌}
use mathlib.Core.Path.{◌≡◌, refl, sym, ap, ◌∙◌}
use native.Mathlib.Nat.{add-zero, zero-add, add-suc, suc-add}
use native.Mathlib.Numerals.{add-one}
use native.Mathlib.Omega.{arith}
use lib.ListN.{length, get_or, set, drop, length-append, length-set}
use Rattle.passes.specs.declared.symbol.Loc.{Loc}
use Rattle.passes.specs.Color.{same_loc, pairs_from, is_member, join, joined}
use Rattle.theorems.proofs.Members.{pairs_length}
use Rattle.theorems.proofs.ReadSet.{member_append, member_snoc, join_grows}
use Rattle.sets.specs.Sets.{pair_at}
use Rattle.sets.specs.declared.ReadSet.{ReadSet}
use Rattle.sets.specs.Members.{members_in, SetHolds}
use Rattle.mir.specs.Answers.{over}
use Rattle.passes.specs.Contract.{words_of}
use Rattle.mir.proofs.Over.{over_next, over_length, over_over}

twice : (f : ℕ) → suc f * 2 ≡ suc (suc (f * 2))
twice f = omega arith

twice_one : (f : ℕ) → suc f * 2 + 1 ≡ suc (suc (f * 2 + 1))
twice_one f = omega arith

-- ---- one pair more

pub pairs_next : (t : List ℕ) (f n : ℕ) → pairs_from t f (suc n) ≡ pairs_from t f n ++ pair_at t (f + n) ∷ []
unfolding pairs_from
pairs_next t f zero = rw (add-zero f) refl
pairs_next t f (suc n) =
    ap (λ r. pair_at t f ∷ r) (pairs_next t (suc f) n ∙ ap (λ k. pairs_from t (suc f) n ++ pair_at t k ∷ []) (suc-add f n ∙ sym (add-suc f n)))

-- ---- reading back

pairs_shift : (a b : ℕ) (t : List ℕ) (f n : ℕ) → pairs_from (a ∷ b ∷ t) (suc f) n ≡ pairs_from t f n
unfolding pairs_from
pairs_shift a b t f zero = refl
pairs_shift a b t f (suc n) =
    rw (ap (λ k. get_or (a ∷ b ∷ t) k 0) (twice f), ap (λ k. get_or (a ∷ b ∷ t) k 0) (twice_one f)) (ap (λ r. pair_at t f ∷ r) (pairs_shift a b t (suc f) n))

pub pairs_back : (ms : List Loc) (r : List ℕ) → pairs_from (words_of ms ++ r) 0 (length ms) ≡ ms
unfolding pairs_from words_of
pairs_back [] r = refl
pairs_back (m ∷ ms) r = ap (λ l. m ∷ l) (pairs_shift m.space m.index (words_of ms ++ r) 0 (length ms) ∙ pairs_back ms r)

pub words_length : (ms : List Loc) → length (words_of ms) ≡ length ms * 2
unfolding words_of
words_length [] = refl
words_length (m ∷ ms) = omega (arith, words_length ms)

pub words_next : (ms : List Loc) (l : Loc) → words_of (ms ++ l ∷ []) ≡ (words_of ms ++ l.space ∷ []) ++ l.index ∷ []
unfolding words_of
words_next [] l = refl
words_next (m ∷ ms) l = ap (λ r. m.space ∷ m.index ∷ r) (words_next ms l)

-- the pairs of a list, written over it, change nothing
pub words_same : (t : List ℕ) (n : ℕ) → n * 2 ≤ length t → over (words_of (pairs_from t 0 n)) t ≡ t
unfolding pairs_from words_of
words_same t zero h = refl
words_same [] (suc n) h = absurd (omega arith)
words_same (a ∷ []) (suc n) h = absurd (omega arith)
words_same (a ∷ b ∷ t) (suc n) h =
    rw (pairs_shift a b t 0 n) (ap (λ r. a ∷ b ∷ r) (words_same t n (omega arith)))

-- ---- members

module _ (t : List ℕ) (l : Loc) where
  pub member_none : false ≡ is_member l (pairs_from t 0 0)
  unfolding is_member pairs_from
  member_none = refl

  pub member_more : (j : ℕ) → is_member l (pairs_from t 0 j) ≡ false → same_loc (pair_at t j) l ≡ false → is_member l (pairs_from t 0 (j + 1)) ≡ false
  member_more j h e = rw (add-one j, pairs_next t 0 j, member_snoc l (pair_at t (0 + j)) (pairs_from t 0 j), h, zero-add j) e

  pub member_found : (j n : ℕ) → same_loc (pair_at t j) l ≡ true → j < n → is_member l (pairs_from t 0 n) ≡ true
  member_found j n e h =
      let rest : (n - suc j) + suc j ≡ n = omega arith in
      let found = go (n - suc j) in
      rw rest at found
    where
      go : (k : ℕ) → is_member l (pairs_from t 0 (k + suc j)) ≡ true
      go zero = rw (zero-add (suc j), pairs_next t 0 j, member_snoc l (pair_at t (0 + j)) (pairs_from t 0 j), zero-add j, e) (or-true (is_member l (pairs_from t 0 j)))
      go (suc k) = rw (suc-add k (suc j), pairs_next t 0 (k + suc j)) (member_append l (pairs_from t 0 (k + suc j)) (pair_at t (0 + (k + suc j)) ∷ []) (go k))

-- ---- joining

pub joined_next : (ms ls : List Loc) (l : Loc) → joined ms (ls ++ l ∷ []) ≡ join (joined ms ls) l
unfolding joined
joined_next ms [] l = refl
joined_next ms (k ∷ ls) l = joined_next (join ms k) ls l

-- a location written after the pairs of a list
module _ (t : List ℕ) (n : ℕ) (l : Loc) (room : n * 2 + 2 ≤ length t) where
  held : List Loc
  held = pairs_from t 0 n

  pub pair_words : set (set t (n * 2) l.space) (n * 2 + 1) l.index ≡ over (words_of (pairs_from t 0 n ++ l ∷ [])) t
  unfolding held
  pair_words =
      rw (words_next held l)
      (ap (λ x. set (set x (n * 2) l.space) (n * 2 + 1) l.index) (sym (words_same t n (omega arith)))
      ∙ (ap (λ k. set (set (over (words_of held) t) k l.space) (n * 2 + 1) l.index) (sym len)
      ∙ (ap (λ x. set x (n * 2 + 1) l.index) (over_next (words_of held) t l.space (omega (arith, len)))
      ∙ (ap (λ k. set (over (words_of held ++ l.space ∷ []) t) k l.index) (sym len_one)
      ∙ over_next (words_of held ++ l.space ∷ []) t l.index (omega (arith, len_one))))))
    where
      len : length (words_of held) ≡ n * 2
      len = words_length held ∙ ap (λ k. k * 2) (pairs_length t 0 n)

      len_one : length (words_of held ++ l.space ∷ []) ≡ n * 2 + 1
      len_one = length-append (words_of held) (l.space ∷ []) ∙ ap (λ k. k + 1) len

  pub pair_joins : pairs_from (set (set t (n * 2) l.space) (n * 2 + 1) l.index) 0 (n + 1) ≡ pairs_from t 0 n ++ l ∷ []
  pair_joins =
      let more : n + 1 ≡ length (pairs_from t 0 n ++ l ∷ []) = sym (length-append (pairs_from t 0 n) (l ∷ []) ∙ ap (λ k. k + 1) (pairs_length t 0 n)) in
      rw (pair_words, more) (pairs_back (pairs_from t 0 n ++ l ∷ []) (drop (length (words_of (pairs_from t 0 n ++ l ∷ []))) t))

-- what joins as a new member has room
pub room_for : (t : List ℕ) (n : ℕ) (l : Loc) → is_member l (pairs_from t 0 n) ≡ false → length (join (pairs_from t 0 n) l) * 2 ≤ length t → n * 2 + 2 ≤ length t
room_for t n l e h =
    let r = rw e at h in
    omega (arith, r, length-append (pairs_from t 0 n) (l ∷ []), pairs_length t 0 n)

-- more pairs of a table leave at least as many members
pub joined_mono : (ms : List Loc) (t : List ℕ) (f k j : ℕ) → length (joined ms (pairs_from t f j)) ≤ length (joined ms (pairs_from t f (k + j)))
joined_mono ms t f zero j = rw (zero-add j) (omega arith)
joined_mono ms t f (suc k) j =
    rw (suc-add k j, pairs_next t f (k + j), joined_next ms (pairs_from t f (k + j)) (pair_at t (f + (k + j))))
    (omega (arith, joined_mono ms t f k j, join_grows (joined ms (pairs_from t f (k + j))) (pair_at t (f + (k + j)))))

pub joined_none : (ms : List Loc) (table : List ℕ) (first : ℕ) → joined ms (pairs_from table first 0) ≡ ms
unfolding joined pairs_from
joined_none ms table first = refl

-- the pairs of a table join one after the other, with room for all of them
module _ (ms : List Loc) (table : List ℕ) (first j : ℕ) where
  pub join_next : join (joined ms (pairs_from table first j)) (pair_at table (first + j)) ≡ joined ms (pairs_from table first (j + 1))
  join_next =
      sym (joined_next ms (pairs_from table first j) (pair_at table (first + j)))
      ∙ ap (joined ms) (sym (pairs_next table first j) ∙ ap (pairs_from table first) (sym (add-one j)))

  pub join_fewer : (count : ℕ) → j < count → length (joined ms (pairs_from table first (j + 1))) ≤ length (joined ms (pairs_from table first count))
  join_fewer count l =
      let e : (count - (j + 1)) + (j + 1) ≡ count = omega arith in
      let m = joined_mono ms table first (count - (j + 1)) (j + 1) in
      rw e at m

-- ---- the set

-- it holds its own members
pub holds_own : (s : ReadSet) → SetHolds s (members_in s) s
holds_own s =
    record {
      same = refl;
      members = refl;
      words = sym (words_same s.words.now s.len s.room);
      fits = rw (pairs_length s.words.now 0 s.len) s.room;
    }

module _ {s : ReadSet} {ms : List Loc} {before : ReadSet} (h : SetHolds s ms before) where
  pub holds_length : length s.words.now ≡ length before.words.now
  holds_length = ap length h.words ∙ over_length (words_of ms) before.words.now (rw (words_length ms) h.fits)

  -- the words of a set that grows
  pub holds_more : {s' : ReadSet} {ks : List Loc} → length ms ≤ length ks → SetHolds s' ks s → SetHolds s' ks before
  holds_more {s'} {ks} grows h' =
      record {
        same = h'.same ∙ h.same;
        members = h'.members;
        words = h'.words ∙ (ap (over (words_of ks)) h.words ∙ over_over (words_of ks) (words_of ms) before.words.now (rw (words_length ms, words_length ks) (omega (arith, grows))));
        fits = rw (← holds_length) h'.fits;
      }

-- what `insert` needs
pub ruleset insert_rules = (holds_own, pair_words, pair_joins, room_for, length-set)

-- what a step of the set needs: it holds its own members, and it grows
pub ruleset set_rules = (holds_own, holds_length, holds_more, join_grows)

pub ruleset extend_rules = (set_rules, joined_none, join_next, join_fewer)
