-- The renaming of section 2: a static is held by at most one register; ends never fall, a read moves the end to its
-- record, and a static that no register holds any more has its end behind it.
-- By induction on the records, one destination and one source at a time.
use Rattle.std.specs.Prelude.{Option, Some, None}
use Prim.Native.Nat.{ℕ, zero, suc, ◌+◌, ◌-◌, ◌*◌, ◌≤◌, ◌<◌}
use mathlib.Core.Bool.{Bool, true, false, cond, ◌||◌}
use mathlib.Core.List.{List, [], ◌∷◌}
use mathlib.Core.Logic.{◌⊎◌, inl, inr, ⊎_elim}
use mathlib.Core.Path.{◌≡◌, refl, sym, ap, ◌∙◌}
use native.Mathlib.Nat.{add_assoc, add-zero}
use native.Mathlib.Omega.{arith}
use native.Mathlib.Decide.{dec_lt}
use lib.Dec.{eqb}
use lib.ListN.{length, get_or, set, replicate, length-append, length-set, length-replicate, get_or-append, get_or-replicate}
use lib.Seq.{get_or-set_same, get_or-set_other, get_or-append-add}
use Rattle.std.specs.List.{list_all}
use Rattle.mir.specs.Records.{records, record_at, word_at, is_gen}
use Rattle.mir.specs.Renaming.{fresh, one, produce, gens, produced, renamed, statics_to, regs_to}
use Rattle.mir.specs.Shapes.{call, label, dests, sources}
use Rattle.mir.proofs.Renaming.{and_both, set_cases, not_fresh, held_set, known_set, statics_two}
use Rattle.passes.specs.Create.{ended_at, consume, consumed, ends_to, ends_of}
use Rattle.theorems.proofs.Update.{never_falls}

-- ---- the registers' statics

pub record Names (regs : List (Option ℕ)) (m : ℕ) : Type 0 where
  pub below : (r s : ℕ) → get_or regs r None ≡ Some s → s < m
  pub once : (r q s : ℕ) → get_or regs r None ≡ Some s → get_or regs q None ≡ Some s → r ≡ q

names_fresh : (m : ℕ) → Names fresh m
names_fresh m = record { below = λ r s e. absurd (not_fresh r s e); once = λ r q s e f. absurd (not_fresh r s e) }

-- one destination: its register holds the new static, which is above all others
module _ (w m : ℕ) (regs : List (Option ℕ)) (names : Names regs m) where
  pub names_set : Names (set regs w (Some m)) (suc m)
  names_set = record { below = known_set w m regs names.below; once = once }
    where
      held : (r s : ℕ) → get_or (set regs w (Some m)) r None ≡ Some s → ((r ≡ w) × (m ≡ s)) ⊎ (get_or regs r None ≡ Some s)
      held = held_set w m regs

      once : (r q s : ℕ) → get_or (set regs w (Some m)) r None ≡ Some s → get_or (set regs w (Some m)) q None ≡ Some s → r ≡ q
      once r q s e f =
          ⊎_elim
          (λ (a : (r ≡ w) × (m ≡ s)).
          ⊎_elim (λ (b : (q ≡ w) × (m ≡ s)). a.0 ∙ sym b.0)
          (λ (b : get_or regs q None ≡ Some s). absurd (omega (arith, a.1, names.below q s b))) (held q s f))
          (λ (a : get_or regs r None ≡ Some s).
          ⊎_elim (λ (b : (q ≡ w) × (m ≡ s)). absurd (omega (arith, b.1, names.below r s a)))
          (λ (b : get_or regs q None ≡ Some s). names.once r q s a b) (held q s f))
          (held r s e)

  pub names_produce : Names (produce w m regs) (m + one w)
  names_produce = go (is_gen w)
    where
      go : (b : Bool) → Names (cond b (set regs w (Some m)) regs) (m + cond b 1 0)
      go true = rw (native.Mathlib.Numerals.add-one m) names_set
      go false = rw add-zero names

pub names_produced : (ws : List ℕ) (m : ℕ) (regs : List (Option ℕ)) → Names regs m → Names (produced ws m regs) (m + gens ws)
unfolding produced gens
names_produced [] m regs h = rw add-zero h
names_produced (w ∷ ws) m regs h = rw (← (add_assoc m (one w) (gens ws))) (names_produced ws (m + one w) (produce w m regs) (names_produce w m regs h))

pub names_to : (list : List ℕ) (i : ℕ) → Names (regs_to list i) (statics_to list i)
unfolding regs_to statics_to renamed
names_to list zero = names_fresh 0
names_to list (suc i) = go (eqb (word_at rec 0) call || eqb (word_at rec 0) label) (names_to list i)
  where
    rec : List ℕ
    rec = record_at list i

    go : (b : Bool) → Names (regs_to list i) (statics_to list i)
        → Names (cond b fresh (produced (dests rec) (statics_to list i) (regs_to list i))) (statics_to list i + gens (dests rec))
    go true h = names_fresh _
    go false h = names_produced (dests rec) (statics_to list i) (regs_to list i) h

-- a static below the next number is held after the destinations only where it was held before
pub produced_old : (ws : List ℕ) (m : ℕ) (regs : List (Option ℕ)) (r s : ℕ) → s < m
    → get_or (produced ws m regs) r None ≡ Some s → get_or regs r None ≡ Some s
unfolding produced
produced_old [] m regs r s l e = e
produced_old (w ∷ ws) m regs r s l e = go (is_gen w) (produced_old ws (m + one w) (produce w m regs) r s (omega arith) e)
  where
    go : (b : Bool) → get_or (cond b (set regs w (Some m)) regs) r None ≡ Some s → get_or regs r None ≡ Some s
    go false f = f
    go true f =
        ⊎_elim
        (λ (a : (r ≡ w) × (get_or (set regs w (Some m)) r None ≡ Some m)).
        let g = a.1 in
        let q : m ≡ s = cc in
        absurd (omega arith))
        (λ (a : get_or (set regs w (Some m)) r None ≡ get_or regs r None). sym a ∙ f) (set_cases regs w (Some m) None r)

pub regs_old : (list : List ℕ) (i r s : ℕ) → s < statics_to list i → get_or (regs_to list (suc i)) r None ≡ Some s → get_or (regs_to list i) r None ≡ Some s
unfolding regs_to renamed
regs_old list i r s l e = go (eqb (word_at rec 0) call || eqb (word_at rec 0) label) e
  where
    rec : List ℕ
    rec = record_at list i

    go : (b : Bool) → get_or (cond b fresh (produced (dests rec) (statics_to list i) (regs_to list i))) r None ≡ Some s
        → get_or (regs_to list i) r None ≡ Some s
    go true f = absurd (not_fresh r s f)
    go false f = produced_old (dests rec) (statics_to list i) (regs_to list i) r s l f

-- ---- the ends

-- w is one of the words
abbrev pub In : ℕ → List ℕ → Type 0
In w [] = ⊥
In w (v ∷ vs) = (w ≡ v) ⊎ In w vs

pub all_in : (p : ℕ → Bool) (ws : List ℕ) (w : ℕ) → list_all p ws ≡ true → In w ws → p w ≡ true
all_in p [] w h m = absurd m
all_in p (v ∷ vs) w h m =
    let b = and_both (p v) (list_all p vs) h in
    ⊎_elim (λ (e : w ≡ v). rw e b.0) (λ (k : In w vs). all_in p vs w b.1 k) m

module _ (regs : List (Option ℕ)) (i : ℕ) where
  ended_length : (k : Option ℕ) (ends : List ℕ) → length (ended_at k i ends) ≡ length ends
  ended_length (Some s) ends = length-set ends s i
  ended_length None ends = refl

  pub consume_length : (w : ℕ) (ends : List ℕ) → length (consume regs i w ends) ≡ length ends
  consume_length w ends = go (is_gen w)
    where
      go : (b : Bool) → length (cond b (ended_at (get_or regs w None) i ends) ends) ≡ length ends
      go true = ended_length (get_or regs w None) ends
      go false = refl

  pub consumed_length : (ws ends : List ℕ) → length (consumed regs i ws ends) ≡ length ends
  unfolding consumed
  consumed_length [] ends = refl
  consumed_length (w ∷ ws) ends = consumed_length ws (consume regs i w ends) ∙ consume_length w ends

  -- a static's end is i, or what it was, and then no source holds it
  ended_cases : (k : Option ℕ) (ends : List ℕ) (s : ℕ)
      → (get_or (ended_at k i ends) s 0 ≡ i) ⊎ (get_or (ended_at k i ends) s 0 ≡ get_or ends s 0)
  ended_cases (Some t) ends s =
      ⊎_elim (λ (a : (s ≡ t) × (get_or (set ends t i) s 0 ≡ i)). inl a.1) (λ (a : get_or (set ends t i) s 0 ≡ get_or ends s 0). inr a)
      (set_cases ends t i 0 s)
  ended_cases None ends s = inr refl

  consume_cases : (w : ℕ) (ends : List ℕ) (s : ℕ)
      → (get_or (consume regs i w ends) s 0 ≡ i) ⊎ (get_or (consume regs i w ends) s 0 ≡ get_or ends s 0)
  consume_cases w ends s = go (is_gen w)
    where
      go : (b : Bool) → (get_or (cond b (ended_at (get_or regs w None) i ends) ends) s 0 ≡ i) ⊎ (get_or (cond b (ended_at (get_or regs w None) i ends) ends) s 0 ≡ get_or ends s 0)
      go true = ended_cases (get_or regs w None) ends s
      go false = inr refl

  pub consumed_cases : (ws ends : List ℕ) (s : ℕ)
      → (get_or (consumed regs i ws ends) s 0 ≡ i) ⊎ (get_or (consumed regs i ws ends) s 0 ≡ get_or ends s 0)
  unfolding consumed
  consumed_cases [] ends s = inr refl
  consumed_cases (w ∷ ws) ends s =
      ⊎_elim (λ a. inl a)
      (λ (a : get_or (consumed regs i ws (consume regs i w ends)) s 0 ≡ get_or (consume regs i w ends) s 0).
      ⊎_elim (λ (b : get_or (consume regs i w ends) s 0 ≡ i). inl (a ∙ b)) (λ (b : get_or (consume regs i w ends) s 0 ≡ get_or ends s 0). inr (a ∙ b))
      (consume_cases w ends s))
      (consumed_cases ws (consume regs i w ends) s)

  -- a source that holds s moves its end to i
  consume_hit : (w : ℕ) (ends : List ℕ) (s : ℕ) → is_gen w ≡ true → get_or regs w None ≡ Some s → s < length ends → get_or (consume regs i w ends) s 0 ≡ i
  consume_hit w ends s g e l = rw (g, e) (get_or-set_same ends s i 0 l)

  pub consumed_hit : (ws ends : List ℕ) (w s : ℕ) → In w ws → is_gen w ≡ true → get_or regs w None ≡ Some s → s < length ends
      → get_or (consumed regs i ws ends) s 0 ≡ i
  unfolding consumed
  consumed_hit [] ends w s m g e l = absurd m
  consumed_hit (v ∷ ws) ends w s m g e l =
      ⊎_elim
      (λ (q : w ≡ v).
      ⊎_elim (λ a. a) (λ (a : get_or (consumed regs i ws (consume regs i v ends)) s 0 ≡ get_or (consume regs i v ends) s 0).
      a ∙ consume_hit v ends s (rw q at g) (rw q at e) l)
      (consumed_cases ws (consume regs i v ends) s))
      (λ (q : In w ws). consumed_hit ws (consume regs i v ends) w s q g e (rw (consume_length v ends) l)) m

  -- a static that no source holds keeps its end
  pub consumed_miss : (ws ends : List ℕ) (s : ℕ) → ((w : ℕ) → In w ws → is_gen w ≡ true → get_or regs w None ≡ Some s → ⊥)
      → get_or (consumed regs i ws ends) s 0 ≡ get_or ends s 0
  unfolding consumed
  consumed_miss [] ends s h = refl
  consumed_miss (w ∷ ws) ends s h =
      consumed_miss ws (consume regs i w ends) s (λ v m. h v (inr m)) ∙ go (is_gen w) refl (get_or regs w None) refl
    where
      go : (b : Bool) → is_gen w ≡ b → (k : Option ℕ) → get_or regs w None ≡ k → get_or (cond b (ended_at k i ends) ends) s 0 ≡ get_or ends s 0
      go false g k e = refl
      go true g None e = refl
      go true g (Some t) e = get_or-set_other ends t s i 0 (λ (q : s ≡ t). h w (inl refl) g (e ∙ ap Some (sym q)))

pub ends_length : (list : List ℕ) (i : ℕ) → length (ends_to list i) ≡ statics_to list i
unfolding ends_to statics_to
ends_length list zero = refl
ends_length list (suc i) =
    let rec = record_at list i in
    let c = consumed (regs_to list i) i (sources rec) (ends_to list i) in
    length-append c (replicate (gens (dests rec)) i)
    ∙ rw (length-replicate (gens (dests rec)) i, consumed_length (regs_to list i) i (sources rec) (ends_to list i), ends_length list i)

-- all ends, which a slice has room for that has room for two a record
pub ends_count : (list : List ℕ) → length (ends_of list) ≡ statics_to list (records list)
unfolding ends_of
ends_count list = ends_length list (records list)

pub ends_fit : (list : List ℕ) {n : ℕ} → records list * 2 ≤ n → length (ends_of list) ≤ n
ends_fit list h = omega (arith, ends_count list, statics_two list (records list), h)

module _ (list : List ℕ) (i : ℕ) where
  after : List ℕ
  after = consumed (regs_to list i) i (sources (record_at list i)) (ends_to list i)

  after_length : length after ≡ statics_to list i
  unfolding after
  after_length = consumed_length (regs_to list i) i (sources (record_at list i)) (ends_to list i) ∙ ends_length list i

  -- an older static's end is what the sources left, and a new one's is i
  ends_old : (s : ℕ) → s < statics_to list i → get_or (ends_to list (suc i)) s 0 ≡ get_or after s 0
  unfolding ends_to after
  ends_old s l = get_or-append after (replicate (gens (dests (record_at list i))) i) 0 s (rw after_length l)

  ends_new : (s : ℕ) → statics_to list i ≤ s → s < statics_to list (suc i) → get_or (ends_to list (suc i)) s 0 ≡ i
  unfolding ends_to after statics_to
  ends_new s h l =
      let k = gens (dests (record_at list i)) in
      let e : s ≡ length after + (s - statics_to list i) = rw after_length (omega arith) in
      let f = get_or-append-add after (replicate k i) (s - statics_to list i) 0 in
      rw e (f ∙ get_or-replicate k (s - statics_to list i) i 0 (omega arith))

  -- a record moves an older static's end to itself, or leaves it
  ends_moved : (s : ℕ) → s < statics_to list i → (get_or (ends_to list (suc i)) s 0 ≡ i) ⊎ (get_or (ends_to list (suc i)) s 0 ≡ get_or (ends_to list i) s 0)
  unfolding after
  ends_moved s h =
      ⊎_elim (λ (a : get_or after s 0 ≡ i). inl (ends_old s h ∙ a)) (λ (a : get_or after s 0 ≡ get_or (ends_to list i) s 0). inr (ends_old s h ∙ a))
      (consumed_cases (regs_to list i) i (sources (record_at list i)) (ends_to list i) s)

  -- every end lies behind the next record
  new_or_old : (s : ℕ) → (s < statics_to list i) ⊎ (statics_to list i ≤ s)
  new_or_old s = go (dec_lt s (statics_to list i))
    where
      go : Dec (s < statics_to list i) → (s < statics_to list i) ⊎ (statics_to list i ≤ s)
      go (yes h) = inl h
      go (no h) = inr (omega (arith, h))

  ends_below_next : ((s : ℕ) → s < statics_to list i → get_or (ends_to list i) s 0 < i) → (s : ℕ) → s < statics_to list (suc i) → get_or (ends_to list (suc i)) s 0 < suc i
  ends_below_next up s l =
      ⊎_elim
      (λ (h : s < statics_to list i).
      ⊎_elim (λ (a : get_or (ends_to list (suc i)) s 0 ≡ i). omega (arith, a)) (λ (a : get_or (ends_to list (suc i)) s 0 ≡ get_or (ends_to list i) s 0). omega (arith, a, up s h))
      (ends_moved s h))
      (λ (h : statics_to list i ≤ s). omega (arith, ends_new s h l)) (new_or_old s)

  -- ends never fall
  ends_grow : ((s : ℕ) → s < statics_to list i → get_or (ends_to list i) s 0 < i) → (s : ℕ) → s < statics_to list i → get_or (ends_to list i) s 0 ≤ get_or (ends_to list (suc i)) s 0
  ends_grow up s h =
      ⊎_elim (λ (a : get_or (ends_to list (suc i)) s 0 ≡ i). omega (arith, a, up s h)) (λ (a : get_or (ends_to list (suc i)) s 0 ≡ get_or (ends_to list i) s 0). omega (arith, a))
      (ends_moved s h)

  -- record i reads s: its end is i then
  ends_read : (w s : ℕ) → In w (sources (record_at list i)) → is_gen w ≡ true → get_or (regs_to list i) w None ≡ Some s → get_or (ends_to list (suc i)) s 0 ≡ i
  unfolding after
  ends_read w s m g e =
      let h = (names_to list i).below w s e in
      ends_old s h ∙ consumed_hit (regs_to list i) i (sources (record_at list i)) (ends_to list i) w s m g e (rw (ends_length list i) h)

  -- record i does not read s
  abbrev pub Unread : ℕ → Type 0
  Unread s = (w : ℕ) → In w (sources (record_at list i)) → is_gen w ≡ true → get_or (regs_to list i) w None ≡ Some s → ⊥

  -- its end stays
  ends_stay : (s : ℕ) → s < statics_to list i → Unread s → get_or (ends_to list (suc i)) s 0 ≡ get_or (ends_to list i) s 0
  unfolding after
  ends_stay s h g = ends_old s h ∙ consumed_miss (regs_to list i) i (sources (record_at list i)) (ends_to list i) s g

  pub statics_grow : statics_to list i ≤ statics_to list (suc i)
  unfolding statics_to
  statics_grow = omega arith

pub ends_below : (list : List ℕ) (i s : ℕ) → s < statics_to list i → get_or (ends_to list i) s 0 < i
unfolding statics_to
ends_below list zero s h = absurd (omega arith)
ends_below list (suc i) s h = ends_below_next list i (ends_below list i) s h

pub statics_mono : (list : List ℕ) (k i : ℕ) → statics_to list i ≤ statics_to list (k + i)
statics_mono list = never_falls (statics_to list) (statics_grow list)

pub ends_mono : (list : List ℕ) (k i s : ℕ) → s < statics_to list i → get_or (ends_to list i) s 0 ≤ get_or (ends_to list (k + i)) s 0
ends_mono list zero i s h = rw native.Mathlib.Nat.zero-add (omega arith)
ends_mono list (suc k) i s h =
    rw native.Mathlib.Nat.suc-add
    (omega (arith, ends_mono list k i s h, ends_grow list (k + i) (ends_below list (k + i)) s (omega (arith, statics_mono list k i))))

-- a record before the last that reads s: s is needed up to there at least
pub read_end : (list : List ℕ) (i w s : ℕ) → i < records list → In w (sources (record_at list i)) → is_gen w ≡ true
    → get_or (regs_to list i) w None ≡ Some s → i ≤ get_or (ends_of list) s 0
unfolding ends_of
read_end list i w s l m g e =
    let k = records list - suc i in
    let n : k + suc i ≡ records list = omega arith in
    let h = (names_to list i).below w s e in
    let f = ends_mono list k (suc i) s (omega (arith, h, statics_grow list i)) in
    rw (← n) (omega (arith, f, ends_read list i w s m g e))

-- an end stays as it is before record i, or it is i or beyond
ends_later : (list : List ℕ) (k i s : ℕ) → s < statics_to list i
    → (get_or (ends_to list (k + i)) s 0 ≡ get_or (ends_to list i) s 0) ⊎ (i ≤ get_or (ends_to list (k + i)) s 0)
ends_later list zero i s h = rw native.Mathlib.Nat.zero-add (inl refl)
ends_later list (suc k) i s h = rw native.Mathlib.Nat.suc-add (go (ends_later list k i s h) (ends_moved list (k + i) s (omega (arith, statics_mono list k i))))
  where
    go : (get_or (ends_to list (k + i)) s 0 ≡ get_or (ends_to list i) s 0) ⊎ (i ≤ get_or (ends_to list (k + i)) s 0)
        → (get_or (ends_to list (suc (k + i))) s 0 ≡ k + i) ⊎ (get_or (ends_to list (suc (k + i))) s 0 ≡ get_or (ends_to list (k + i)) s 0)
        → (get_or (ends_to list (suc (k + i))) s 0 ≡ get_or (ends_to list i) s 0) ⊎ (i ≤ get_or (ends_to list (suc (k + i))) s 0)
    go up (inl e) = inr (omega (arith, e))
    go (inl f) (inr e) = inl (e ∙ f)
    go (inr f) (inr e) = inr (omega (arith, e, f))

-- a static that was there before record i, and that ends at i, is read there
pub read_last : (list : List ℕ) (i s : ℕ) → i < records list → s < statics_to list i → get_or (ends_of list) s 0 ≡ i → Unread list i s → ⊥
unfolding ends_of
read_last list i s l h e unread =
    let k = records list - suc i in
    let n : k + suc i ≡ records list = omega arith in
    let stays = ends_stay list i s h unread in
    let later = rw n at (ends_later list k (suc i) s (omega (arith, h, statics_grow list i))) in
    ⊎_elim (λ (f : get_or (ends_to list (records list)) s 0 ≡ get_or (ends_to list (suc i)) s 0). omega (arith, e, f, stays, ends_below list i s h))
    (λ (f : suc i ≤ get_or (ends_to list (records list)) s 0). omega (arith, e, f)) later

-- a static that no register holds after record i ended by then
gone : (list : List ℕ) (k i s : ℕ) → s < statics_to list i → ((r : ℕ) → get_or (regs_to list i) r None ≡ Some s → ⊥)
    → ((r : ℕ) → get_or (regs_to list (k + i)) r None ≡ Some s → ⊥) × (get_or (ends_to list (k + i)) s 0 ≡ get_or (ends_to list i) s 0)
gone list zero i s h g = rw native.Mathlib.Nat.zero-add (g, refl)
gone list (suc k) i s h g =
    let up = gone list k i s h g in
    let l : s < statics_to list (k + i) = omega (arith, statics_mono list k i) in
    rw native.Mathlib.Nat.suc-add (
      λ (r : ℕ) (e : get_or (regs_to list (suc (k + i))) r None ≡ Some s). up.0 r (regs_old list (k + i) r s l e),
      ends_stay list (k + i) s l (λ w m g. up.0 w) ∙ up.1,
    )

pub gone_end : (list : List ℕ) (i s : ℕ) → i < records list → s < statics_to list (suc i)
    → ((r : ℕ) → get_or (regs_to list (suc i)) r None ≡ Some s → ⊥) → get_or (ends_of list) s 0 ≤ i
unfolding ends_of
gone_end list i s l h g =
    let k = records list - suc i in
    let n : k + suc i ≡ records list = omega arith in
    let e = (gone list k (suc i) s h g).1 in
    rw (← n) (omega (arith, e, ends_below list (suc i) s h))

-- a static that no record after i reads ended by then
module _ (list : List ℕ) (i s : ℕ) (known : s < statics_to list (suc i)) (unread : (j : ℕ) → i < j → j < records list → Unread list j s) where
  unread_to : (k : ℕ) → k + suc i ≤ records list → get_or (ends_to list (k + suc i)) s 0 ≡ get_or (ends_to list (suc i)) s 0
  unread_to zero l = rw native.Mathlib.Nat.zero-add refl
  unread_to (suc k) l =
      rw native.Mathlib.Nat.suc-add
      (ends_stay list (k + suc i) s (omega (arith, statics_mono list k (suc i))) (unread (k + suc i) (omega arith) (omega arith))
      ∙ unread_to k (omega arith))

  pub unread_end : i < records list → get_or (ends_of list) s 0 ≤ i
  unfolding ends_of
  unread_end l =
      let k = records list - suc i in
      let n : k + suc i ≡ records list = omega arith in
      rw (← n) (omega (arith, unread_to k (omega arith), ends_below list (suc i) s known))
