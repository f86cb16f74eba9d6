-- The renaming of section 2: how many statics there can be, that the Gen registers of a record that fits are below the count, and
-- that the registers keep their number.
-- By induction on the records, a record making at most two statics; and by the register words, destinations before sources.
use Rattle.std.specs.Prelude.{Option, Some, None}
use Prim.Native.Nat.{ℕ, zero, suc, ◌+◌, ◌*◌, ◌≤◌, ◌<◌}
use mathlib.Core.Bool.{Bool, true, false, cond, ◌&&◌, ◌||◌}
use mathlib.Core.List.{List, [], ◌∷◌, ◌++◌}
use mathlib.Core.Logic.{◌⊎◌, inl, inr, ⊎_elim}
use mathlib.Core.Path.{◌≡◌, refl, sym, ◌∙◌}
use native.Mathlib.Nat.{add_assoc, add-zero}
use native.Mathlib.Numerals.{add-one}
use native.Mathlib.Decide.{dec_lt}
use native.Mathlib.Omega.{arith}
use lib.Dec.{eqb}
use lib.ListN.{length, get_or, get_or-eq_default, take, drop, set, replicate, length-take, length-set}
use lib.Seq.{take-add, drop-drop, get_or-set_same, get_or-set_other, set_out}
use borrow.Author.Tests.{ltb-true, lt-ltb}
use Rattle.std.specs.List.{list_all}
use Rattle.mir.specs.Questions.{gen_fits, gens_fit}
use Rattle.mir.specs.Records.{is_gen, record_at, word_at, max_regs}
use Rattle.mir.specs.Renaming.{fresh, one, produce, gens, produced, renamed, statics_to, regs_to}
use Rattle.mir.specs.Shapes.{shape_of, shape_for, call, label, dests, sources, registers}
use Rattle.mir.specs.Inner.{Known, KnownIn}
use Rattle.mir.specs.declared.rename.Renaming.{Renaming}
use Rattle.mir.proofs.Clash.{clash, same_or}
use Rattle.mir.proofs.Folds.{all_append}
use Rattle.mir.proofs.Shapes.{two_dests}

pub one_le : (w : ℕ) → one w ≤ 1
one_le w = go (is_gen w)
  where
    go : (b : Bool) → cond b 1 0 ≤ 1
    go true = omega arith
    go false = omega arith

gens_le : (ws : List ℕ) → gens ws ≤ length ws
unfolding gens
gens_le [] = omega arith
gens_le (w ∷ ws) = omega (arith, one_le w, gens_le ws)

pub gens_two : (rec : List ℕ) → gens (dests rec) ≤ 2
unfolding dests
gens_two rec =
    let d = (shape_for rec).dsts in
    omega (arith, gens_le (take d (drop (shape_for rec).regs rec)), length-take d (drop (shape_for rec).regs rec), two_dests (word_at rec 0))

pub statics_two : (list : List ℕ) (i : ℕ) → statics_to list i ≤ i * 2
unfolding statics_to
statics_two list zero = omega arith
statics_two list (suc i) = omega (arith, statics_two list i, gens_two (record_at list i))

-- the register words are the destinations and then the sources
pub registers_are : (rec : List ℕ) → registers rec ≡ dests rec ++ sources rec
unfolding registers dests sources
registers_are rec =
    let s = shape_for rec in
    rw (take-add s.dsts s.srcs (drop s.regs rec), drop-drop s.dsts s.regs rec)

pub and_both : (a b : Bool) → (a && b) ≡ true → (a ≡ true) × (b ≡ true)
and_both true b h = (refl, h)
and_both false b h = (h, cc)

pub gens_fit_both : (n : ℕ) (rec : List ℕ) → gens_fit n rec ≡ true → (list_all (gen_fits n) (dests rec) ≡ true) × (list_all (gen_fits n) (sources rec) ≡ true)
unfolding gens_fit
gens_fit_both n rec h =
    and_both _ _ (sym (all_append (gen_fits n) (dests rec) (sources rec)) ∙ rw registers_are at h)

-- a Gen word that fits is below the count
pub gen_below : (n w : ℕ) → gen_fits n w ≡ true → w < 256 → w < n
gen_below n w h l = ltb-true w n (rw (lt-ltb w 256 l) at h)

-- the words of a short list that fit are below the count
pub fits_one : (n x : ℕ) → list_all (gen_fits n) (x ∷ []) ≡ true → x < 256 → x < n
fits_one n x h = gen_below n x (and_both (gen_fits n x) true h).0

pub fits_two : (n x y : ℕ) → list_all (gen_fits n) (x ∷ y ∷ []) ≡ true → (x < 256 → x < n) × (y < 256 → y < n)
fits_two n x y h =
    let b = and_both (gen_fits n x) (list_all (gen_fits n) (y ∷ [])) h in
    (gen_below n x b.0, fits_one n y b.1)

-- and so are a record's one or two destinations, where its registers fit
module _ (n : ℕ) (rec : List ℕ) (fit : gens_fit n rec ≡ true) where
  pub dest_below : {x : ℕ} → dests rec ≡ x ∷ [] → x < 256 → x < n
  dest_below {x} e = fits_one n x (rw e at (gens_fit_both n rec fit).0)

  pub dests_below : {x y : ℕ} → dests rec ≡ x ∷ y ∷ [] → (x < 256 → x < n) × (y < 256 → y < n)
  dests_below {x} {y} e = fits_two n x y (rw e at (gens_fit_both n rec fit).0)

-- ---- past the registers

pub produce_past : (w n : ℕ) (regs : List (Option ℕ)) → length regs ≤ w → regs ≡ produce w n regs
produce_past w n regs h = go (is_gen w)
  where
    go : (b : Bool) → regs ≡ cond b (set regs w (Some n)) regs
    go true = sym (set_out regs w (Some n) h)
    go false = refl

-- a register that holds a static is Gen
pub holder_is_gen : (w : ℕ) (regs : List (Option ℕ)) {s : ℕ} → length regs ≡ max_regs → get_or regs w None ≡ Some s → is_gen w ≡ true
holder_is_gen w regs len e = go (dec_lt w 256)
  where
    go : Dec (w < 256) → is_gen w ≡ true
    go (yes l) = lt-ltb w 256 l
    go (no g) =
        let past : length regs ≤ w = omega (arith, g, len) in
        clash (cc (get_or-eq_default regs None past))

-- ---- the registers keep their number

produced_length : (ws : List ℕ) (m : ℕ) (regs : List (Option ℕ)) → length (produced ws m regs) ≡ length regs
unfolding produced
produced_length [] m regs = refl
produced_length (w ∷ ws) m regs = produced_length ws (m + one w) (produce w m regs) ∙ go (is_gen w)
  where
    go : (b : Bool) → length (cond b (set regs w (Some m)) regs) ≡ length regs
    go true = length-set regs w (Some m)
    go false = refl

pub regs_length : (list : List ℕ) (i : ℕ) → length (regs_to list i) ≡ max_regs
unfolding regs_to renamed
regs_length list zero = refl
regs_length list (suc i) = go (eqb (word_at (record_at list i) 0) call || eqb (word_at (record_at list i) 0) label) (regs_length list i)
  where
    go : (b : Bool) → length (regs_to list i) ≡ max_regs → length (cond b fresh (produced (dests (record_at list i)) (statics_to list i) (regs_to list i))) ≡ max_regs
    go true h = refl
    go false h = produced_length (dests (record_at list i)) (statics_to list i) (regs_to list i) ∙ h

-- ---- what the registers hold

-- what stands at r after a store at w: what was stored, where r is w, or what stood there
pub set_cases {ℓ} : {A : Type ℓ} (l : List A) (w : ℕ) (x d : A) (r : ℕ)
    → ((r ≡ w) × (get_or (set l w x) r d ≡ x)) ⊎ (get_or (set l w x) r d ≡ get_or l r d)
set_cases l w x d r = ⊎_elim at_w (λ (h : r ≡ w → ⊥). inr (get_or-set_other l w r x d h)) (same_or r w)
  where
    inside : Dec (w < length l) → r ≡ w → ((r ≡ w) × (get_or (set l w x) r d ≡ x)) ⊎ (get_or (set l w x) r d ≡ get_or l r d)
    inside (yes h) e = inl (e, rw e (get_or-set_same l w x d h))
    inside (no h) e = inr (rw (set_out l w x (omega (arith, h))))

    at_w : r ≡ w → ((r ≡ w) × (get_or (set l w x) r d ≡ x)) ⊎ (get_or (set l w x) r d ≡ get_or l r d)
    at_w e = inside (dec_lt w (length l)) e

unset_fresh : (k r : ℕ) → get_or {A = Option ℕ} (replicate k None) r None ≡ None
unset_fresh zero r = refl
unset_fresh (suc k) zero = refl
unset_fresh (suc k) (suc r) = unset_fresh k r

pub not_fresh : (r s : ℕ) → get_or fresh r None ≡ Some s → ⊥
not_fresh r s e =
    let u = unset_fresh max_regs r in
    clash (cc)

-- a register that holds a static after a store holds the new one, or the one that it held
pub held_set : (w m : ℕ) (regs : List (Option ℕ)) (r s : ℕ) → get_or (set regs w (Some m)) r None ≡ Some s → ((r ≡ w) × (m ≡ s)) ⊎ (get_or regs r None ≡ Some s)
held_set w m regs r s e =
    ⊎_elim
    (λ (a : (r ≡ w) × (get_or (set regs w (Some m)) r None ≡ Some m)).
    let f = a.1 in
    let q : m ≡ s = cc in
    inl (a.0, q))
    (λ (a : get_or (set regs w (Some m)) r None ≡ get_or regs r None). inr (sym a ∙ e)) (set_cases regs w (Some m) None r)

pub known_set : (w m : ℕ) (regs : List (Option ℕ)) → Known regs m → Known (set regs w (Some m)) (suc m)
known_set w m regs h r s e =
    ⊎_elim (λ (a : (r ≡ w) × (m ≡ s)). omega (arith, a.1))
    (λ (a : get_or regs r None ≡ Some s). omega (arith, h r s a)) (held_set w m regs r s e)

known_produce : (w m : ℕ) (regs : List (Option ℕ)) → Known regs m → Known (produce w m regs) (m + one w)
known_produce w m regs h = go (is_gen w)
  where
    go : (b : Bool) → Known (cond b (set regs w (Some m)) regs) (m + cond b 1 0)
    go true = rw (add-one m) (known_set w m regs h)
    go false = rw add-zero h

known_produced : (ws : List ℕ) (m : ℕ) (regs : List (Option ℕ)) → Known regs m → Known (produced ws m regs) (m + gens ws)
unfolding produced gens
known_produced [] m regs h = rw add-zero h
known_produced (w ∷ ws) m regs h = rw (← (add_assoc m (one w) (gens ws))) (known_produced ws (m + one w) (produce w m regs) (known_produce w m regs h))

pub known_fresh : (m : ℕ) → KnownIn fresh m
known_fresh m = record { size = refl; known = λ r s e. absurd (not_fresh r s e) }

-- the statics that the registers hold after a record are among those that there are then
pub known_renamed : (rec : List ℕ) (m : ℕ) (regs : List (Option ℕ)) → KnownIn regs m → KnownIn (renamed rec m regs) (m + gens (dests rec))
unfolding renamed
known_renamed rec m regs h = go (eqb (word_at rec 0) call || eqb (word_at rec 0) label)
  where
    go : (b : Bool) → KnownIn (cond b fresh (produced (dests rec) m regs)) (m + gens (dests rec))
    go true = known_fresh _
    go false = record { size = produced_length (dests rec) m regs ∙ h.size; known = known_produced (dests rec) m regs h.known }

-- ---- what every walk keeps: before record i its registers and its number of statics are the definitions'

pub record Walked (list : List ℕ) (i : ℕ) (r : Renaming) : Type 0 where
  pub regs_are : r.regs ≡ regs_to list i
  pub statics_are : r.statics ≡ statics_to list i

pub walked_first : (list : List ℕ) {r : Renaming} → r.regs ≡ fresh → r.statics ≡ 0 → Walked list 0 r
unfolding regs_to statics_to
walked_first list e f = record { regs_are = e; statics_are = f }

pub walked_next : {list : List ℕ} {i : ℕ} {r : Renaming} {rec : List ℕ} → Walked list i r → rec ≡ record_at list i
    → {new : Renaming} → new.regs ≡ renamed rec r.statics r.regs → new.statics ≡ r.statics + gens (dests rec) → Walked list (i + 1) new
unfolding regs_to statics_to
walked_next {list} {i} w e r g =
    record {
      regs_are = rw (add-one i, ← w.regs_are, ← w.statics_are, ← e) r;
      statics_are = rw (add-one i, ← e, ← w.statics_are) g;
    }

-- a record that forgets writes no register
pub none_forgets : (rec : List ℕ) → (word_at rec 0 ≡ call) ⊎ (word_at rec 0 ≡ label) → gens (dests rec) ≡ 0
unfolding gens dests shape_of
none_forgets rec (inl e) = rw e refl
none_forgets rec (inr e) = rw e refl
