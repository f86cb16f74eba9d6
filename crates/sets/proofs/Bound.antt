-- The walk for a location passes at most one member more than its key and theirs have bits: at most 35 in the three spaces.
-- Only one link goes to a member, so the walk for that member took the same turns; and after all bits only equal keys are left.
use Prim.Native.Nat.{ℕ, zero, suc, ◌+◌, ◌*◌, ◌/◌, ◌%◌, ◌^◌, ◌<◌, ◌≤◌}
use mathlib.Core.Bool.{Bool, true, false, cond}
use mathlib.Core.List.{List}
use mathlib.Core.Logic.{∥∥₁_elim}
use mathlib.Core.Path.{◌≡◌, refl, sym, ap, ◌∙◌}
use native.Mathlib.Nat.{pow-suc, zero-add, add-zero, add-suc, suc-add}
use native.Mathlib.Omega.{arith}
use borrow.Author.Tests.{eq-eqb}
use Rattle.mir.proofs.Clash.{clash}
use Rattle.passes.specs.declared.symbol.Loc.{Loc}
use Rattle.passes.specs.Color.{same_loc}
use Rattle.sets.specs.Sets.{pair_at, bucket, key, Path, here, there, Indexed, passed, Bits}
use Rattle.sets.specs.declared.ReadSet.{ReadSet}
use Rattle.sets.specs.Members.{passed_in, InSpaces}

-- ---- one step more

module _ (words : List ℕ) (heads : ℕ) (at : ℕ → ℕ) (l : Loc) where
  one_more : (b : Bool) {x y : ℕ} → x ≤ y → suc (cond b 0 x) ≤ suc (cond b 0 y)
  one_more true le = omega arith
  one_more false le = omega arith

  -- more steps pass no fewer
  pub passed_more : (f g v bits : ℕ) → f ≤ g → passed words heads at l f v bits ≤ passed words heads at l g v bits
  unfolding passed
  passed_more zero g v bits le = omega arith
  passed_more (suc f) zero v bits le = absurd (omega arith)
  passed_more (suc f) (suc g) zero bits le = omega arith
  passed_more (suc f) (suc g) (suc w) bits le =
      one_more (same_loc (pair_at words w) l) (passed_more f g (at (heads + (w * 2 + bits % 2))) (bits / 2) (omega arith))

  other_passed : (b : Bool) {x y : ℕ} → x ≤ y → b ≡ false → x < suc (cond b 0 y)
  other_passed true le e = clash (cc)
  other_passed false le e = omega arith

  -- past a member that is another one fewer is left
  pub passed_fewer : (f g v w bits : ℕ) → f < g → v ≡ suc w → same_loc (pair_at words w) l ≡ false →
      passed words heads at l f (at (heads + (w * 2 + bits % 2))) (bits / 2) < passed words heads at l g v bits
  unfolding passed
  passed_fewer f zero v w bits lt e other = absurd (omega arith)
  passed_fewer f (suc g) v w bits lt e other =
      rw e (other_passed (same_loc (pair_at words w) l) (passed_more f g (at (heads + (w * 2 + bits % 2))) (bits / 2) (omega arith)) other)

-- ---- where walks meet

-- the walk for a location comes to a place in some steps, with these bits left
data Comes (heads : ℕ) (at : ℕ → ℕ) (m : Loc) : ℕ → ℕ → ℕ → Type 0 where
  start : {k bits : ℕ} → k ≡ bucket m heads → bits ≡ key m → Comes heads at m 0 k bits
  step : {k bits : ℕ} (d i rest w : ℕ) → Comes heads at m d i rest → at i ≡ w + 1 → k ≡ heads + (w * 2 + rest % 2) → bits ≡ rest / 2 → Comes heads at m (suc d) k bits

-- the walk for a location comes to a link to member j
record Arrives (heads : ℕ) (at : ℕ → ℕ) (j : ℕ) (m : Loc) : Type 0 where
  d : ℕ
  k : ℕ
  bits : ℕ
  comes : Comes heads at m d k bits
  goes : at k ≡ j + 1

arrives : {heads : ℕ} {at : ℕ → ℕ} (j : ℕ) (m : Loc) (d k bits : ℕ) → Comes heads at m d k bits → Path at heads j k bits → Arrives heads at j m
arrives j m d k bits c (here e) = record { d = d; k = k; bits = bits; comes = c; goes = e }
arrives {heads} j m d k bits c (there w e r) = arrives j m (suc d) (heads + (w * 2 + bits % 2)) (bits / 2) (step d k bits w c e refl refl) r

-- of the bits of a key some are left
bits_left : {heads : ℕ} {at : ℕ → ℕ} (m : Loc) (c d k bits : ℕ) → Comes heads at m d k bits → key m < 2 ^ (d + c) → bits < 2 ^ c
bits_left m c d k bits (start e s) lt =
    let t : key m < 2 ^ c = rw zero-add at lt in
    omega arith
bits_left m c _ k bits (step d i rest w r f a s) lt =
    let t : key m < 2 ^ (d + suc c) = rw (add-suc d c, ← suc-add d c) lt in
    let more : rest < 2 ^ suc c = bits_left m (suc c) d i rest r t in
    omega (arith, pow-suc 2 c)

-- a start is among the heads
below_heads : (x heads : ℕ) → 0 < heads → (x % 4294967296) * heads / 4294967296 < heads
below_heads x heads some = grind arith

module _ {words : List ℕ} {n heads : ℕ} {at : ℕ → ℕ} (h : Indexed words n heads at) (some : 0 < heads) where
  head : (m : Loc) → bucket m heads < heads
  head m = below_heads (m.index * 2654435769 + m.space * 1000003) heads some

  -- walks that come to one place took as many steps, and if the same bits are left, the keys are the same
  meet : (l m : Loc) {d k bits d' k' bits' : ℕ} → Comes heads at l d k bits → Comes heads at m d' k' bits' → k ≡ k' → (d ≡ d') × (bits ≡ bits' → key l ≡ key m)
  meet l m (start a b) (start a' b') s = (refl, λ t. sym b ∙ (t ∙ b'))
  meet l m (start a b) (step d' i' rest' w' r' f' a' b') s = absurd (omega (arith, head l))
  meet l m (step d i rest w r f a b) (start a' b') s = absurd (omega (arith, head m))
  meet l m (step d i rest w r f a b) (step d' i' rest' w' r' f' a' b') s =
      let same : w ≡ w' = omega arith in
      let bit : rest % 2 ≡ rest' % 2 = omega arith in
      let before = meet l m r r' (h.once i i' w f (omega arith)) in
      (ap suc before.0, λ t. before.1 (omega arith))

  module _ (l : Loc) (b : ℕ) (narrow : Bits b l) (all : (j : ℕ) → j < n → Bits b (pair_at words j)) where
    -- where no bit is left, a member is the location
    same_key : (m : Loc) → Bits b m → key l ≡ key m → same_loc m l ≡ true
    same_key m bits e =
        let x : m.index < 4294967296 = bits.word in
        let y : l.index < 4294967296 = narrow.word in
        let space : m.space ≡ l.space = omega arith in
        let index : m.index ≡ l.index = omega arith in
        rw (eq-eqb m.space l.space space, eq-eqb m.index l.index index) refl

    met : (w : ℕ) {d k bits : ℕ} → w < n → d ≡ b → Comes heads at l d k bits → at k ≡ w + 1 → Arrives heads at w (pair_at words w) → same_loc (pair_at words w) l ≡ true
    met w {d} {k} {bits} lt s c e a =
        let one = meet l (pair_at words w) c a.comes (h.once k a.k w e a.goes) in
        let left : bits < 2 ^ 0 = bits_left l 0 d k bits c (rw (add-zero, s) narrow.below) in
        let left' : a.bits < 2 ^ 0 = bits_left (pair_at words w) 0 a.d a.k a.bits a.comes (rw (← one.0, add-zero, s) (all w lt).below) in
        same_key (pair_at words w) (all w lt) (one.1 (omega arith))

    last : (w : ℕ) {d k bits : ℕ} → d ≡ b → Comes heads at l d k bits → at k ≡ w + 1 → same_loc (pair_at words w) l ≡ false → ⊥
    last w {d} {k} s c e other =
        let u = h.up k w e in
        let m : Loc = pair_at words w in
        ∥∥₁_elim (h.paths w u.1) (hlevel) (λ p. let t = met w u.1 s c e (arrives w m 0 (bucket m heads) (key m) (start refl refl) p) in clash (cc))

    one : (t : Bool) (c : ℕ) {x : ℕ} → (t ≡ false → x < suc c) → suc (cond t 0 x) ≤ suc c
    one true c less = omega arith
    one false c less = omega (arith, less refl)

    few : (f c d k bits v : ℕ) → v ≡ at k → d + c ≡ b → Comes heads at l d k bits → passed words heads at l f v bits ≤ suc c
    unfolding passed
    few zero c d k bits v e s come = omega arith
    few (suc f) c d k bits zero e s come = omega arith
    few (suc f) zero d k bits (suc w) e s come =
        one (same_loc (pair_at words w) l) zero (λ other. absurd (last w (rw add-zero at s) come (omega arith) other))
    few (suc f) (suc c) d k bits (suc w) e s come =
        one (same_loc (pair_at words w) l) (suc c) (λ other. let place : ℕ = heads + (w * 2 + bits % 2) in
        let less = few f c (suc d) place (bits / 2) (at place) refl (omega arith) (step d k bits w come (omega arith) refl refl) in
        omega (arith, less))

    -- the walk for a location passes one member more at most than there are bits
    pub few_passed : (f : ℕ) → passed words heads at l f (at (bucket l heads)) (key l) ≤ b + 1
    few_passed f = omega (arith, few f b 0 (bucket l heads) (key l) (at (bucket l heads)) refl (omega arith) (start refl refl))

-- ---- the three spaces

spaces_bits : (l : Loc) → InSpaces l → Bits 34 l
spaces_bits l h = record { word = h.index; below = omega arith }

-- the walk for a location of the three spaces passes 35 members at most
pub thirty_five : (s : ReadSet) (l : Loc) → InSpaces l → ((j : ℕ) → j < s.len → InSpaces (pair_at s.words.now j)) → (f : ℕ) → passed_in s l f ≤ 35
thirty_five s l fits all f =
    few_passed s.index s.links.some l 34 (spaces_bits l fits) (λ j lt. spaces_bits (pair_at s.words.now j) (all j lt)) f
