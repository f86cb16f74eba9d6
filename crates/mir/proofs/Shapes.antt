-- The table of shapes: which kinds have no fields, and that a shape's places lie in the record.
-- A rule of the table is one test that computes over the rows, carried to each kind by `by_kind`; past the end stands `bare`.
use Prim.Native.Nat.{ℕ, zero, suc, ◌+◌, ◌*◌, ◌<◌, ◌≤◌}
use mathlib.Core.Bool.{Bool, true, false, cond, ◌&&◌}
use mathlib.Core.List.{List, [], ◌∷◌}
use lib.Dec.{T, leb, ltb, eqb, leb→le, eqb→eq}
use borrow.Author.Tests.{le-leb, lt-ltb, eqb-true}
use mathlib.Core.Path.{◌≡◌, refl, sym, ap, subst, ◌∙◌}
use native.Mathlib.Nat.{zero-add, add-zero, suc-add, add-suc}
use native.Mathlib.Decide.{dec_lt}
use native.Mathlib.Omega.{arith}
use lib.ListN.{length, get_or, get_or-eq_default}
use Rattle.mir.specs.declared.shape.Action.{Action}
use Rattle.mir.specs.declared.shape.Action.TheVariants as action
use Rattle.mir.specs.declared.shape.Dests.{Dests}
use Rattle.mir.specs.declared.shape.Shape.{Shape}
use Rattle.mir.specs.Inner.{listed}
use Rattle.mir.specs.Records.{word_at}
use Rattle.mir.specs.Shapes.{shape_of, shapes, bare, reg, load_args, shape_for, dests, sources}
use Rattle.mir.specs.Folds.{all_below}
use Rattle.mir.proofs.Folds.{all_at}
use Rattle.mir.proofs.Records.{tabulate, words_at}

pub bare_first : (k : ℕ) → k < 2 → bare ≡ shape_of k
unfolding shape_of
bare_first zero h = refl
bare_first (suc zero) h = refl
bare_first (suc (suc k)) h = absurd (omega arith)

pub bare_past : (k : ℕ) → 21 ≤ k → bare ≡ shape_of k
unfolding shape_of
bare_past k h = rw (get_or-eq_default shapes bare h) refl

-- ---- a rule of the table: a test that computes over the rows, and holds of the shape past the end

and_left : (a b : Bool) → T (a && b) → T a
and_left true b h = tt
and_left false b h = h

and_right : (a b : Bool) → T (a && b) → T b
and_right true b h = h
and_right false b h = absurd h

pub truth : (b : Bool) → T b → b ≡ true
truth true q = refl
truth false q = absurd q

unfoldable pub each_from : (ℕ → Shape → Bool) → ℕ → List Shape → Bool
each_from p n [] = true
each_from p n (x ∷ l) = p n x && each_from p (suc n) l

each_from_at : (p : ℕ → Shape → Bool) (n : ℕ) (l : List Shape) (d : Shape) → T (each_from p n l) → (k : ℕ) → k < length l → T (p (k + n) (get_or l k d))
unfolding each_from
each_from_at p n [] d h k i = absurd (omega arith)
each_from_at p n (x ∷ l) d h zero i = rw zero-add (and_left (p n x) (each_from p (suc n) l) h)
each_from_at p n (x ∷ l) d h (suc k) i =
    rw (suc-add, ← (add-suc k n)) (each_from_at p (suc n) l d (and_right (p n x) (each_from p (suc n) l) h) k (omega arith))

-- what holds of each row and its kind, and of the shape past the end with any kind, holds of each kind's shape
pub by_kind : (p : ℕ → Shape → Bool) → T (each_from p 0 shapes) → ((k : ℕ) → T (p k bare)) → (k : ℕ) → T (p k (shape_of k))
unfolding shape_of
by_kind p h b k = go (dec_lt k 21)
  where
    go : Dec (k < 21) → T (p k (get_or shapes k bare))
    go (yes l) = subst (λ n. T (p n (get_or shapes k bare))) (add-zero k) (each_from_at p 0 shapes bare h k l)
    go (no l) =
        let q : 21 ≤ k = omega (arith, l) in
        rw (get_or-eq_default shapes bare q) (b k)

-- a rule that is an order of numbers and does not speak of the kind
pub rule : (left right : Shape → ℕ) → T (each_from (λ n s. leb (left s) (right s)) 0 shapes) → T (leb (left bare) (right bare))
    → (k : ℕ) → left (shape_of k) ≤ right (shape_of k)
rule left right h b k = leb→le _ _ (by_kind (λ n s. leb (left s) (right s)) h (λ n. b) k)

-- ---- places in the record

-- the register words lie in the record, and so does the location; there are at most two destinations
pub regs_in_record : (k : ℕ) → (shape_of k).regs + ((shape_of k).dsts + (shape_of k).srcs) ≤ 8
unfolding each_from
regs_in_record = rule (λ s. s.regs + (s.dsts + s.srcs)) (λ s. 8) tt tt

pub loc_in_record : (k : ℕ) → (shape_of k).loc + 2 ≤ 8
unfolding each_from
loc_in_record = rule (λ s. s.loc + 2) (λ s. 8) tt tt

pub two_dests : (k : ℕ) → (shape_of k).dsts ≤ 2
unfolding each_from
two_dests = rule (λ s. s.dsts) (λ s. 2) tt tt

pub few_dests : (k : ℕ) {s : Shape} → s ≡ shape_of k → s.dsts ≤ 2
few_dests k same = rw same (two_dests k)

-- where there are registers, they stand after the kind
pub regs_after_kind : (k : ℕ) → (shape_of k).dsts + (shape_of k).srcs ≤ (shape_of k).regs * 8
unfolding each_from
regs_after_kind = rule (λ s. s.dsts + s.srcs) (λ s. s.regs * 8) tt tt

-- the same of a shape in hand
pub room : (k : ℕ) {s : Shape} → s ≡ shape_of k → s.regs + (s.dsts + s.srcs) ≤ 8
room k same = rw same (regs_in_record k)

module _ (rec : List ℕ) (s : Shape) (same : s ≡ shape_for rec) (len : length rec ≡ 8) where
  -- the destinations, and the sources, word by word
  pub dests_are : dests rec ≡ tabulate s.dsts (λ p. get_or rec (s.regs + p) 0)
  unfolding dests
  dests_are = rw (← same) (words_at rec s.dsts s.regs (omega (arith, room _ same)))

  pub sources_are : sources rec ≡ tabulate s.srcs (λ p. get_or rec (s.regs + s.dsts + p) 0)
  unfolding sources
  sources_are = rw (← same) (words_at rec s.srcs (s.regs + s.dsts) (omega (arith, room _ same)))

-- the shape of a kind that is the record's
pub shape_here : (rec : List ℕ) {s : Shape} {k : ℕ} → s ≡ shape_of k → k ≡ word_at rec 0 → s ≡ shape_for rec
shape_here rec e h = e ∙ ap shape_of h

-- and its action, as a branch has it
pub action_here : (rec : List ℕ) {s : Shape} {k : ℕ} {a : Action} → s ≡ shape_of k → k ≡ word_at rec 0 → s.action ≡ a → (shape_for rec).action ≡ a
action_here rec e h f = sym (ap (λ (s : Shape). s.action) (shape_here rec e h)) ∙ f

-- what a `match` on the destinations tells of them
pub dests_told : {d e : Dests} {ws : List ℕ} → listed d ≡ ws → d ≡ e → ws ≡ listed e
dests_told h e = sym h ∙ ap listed e

-- where a register stands, the field may be any register
is_register : Shape → ℕ → Bool
is_register s p = leb s.regs p && ltb p (s.regs + (s.dsts + s.srcs))

any_register : Shape → Bool
unfolding is_register
any_register s = all_below 8 (λ p. cond (is_register s p) (eqb (get_or s.most p 0) reg) true)

pub register_limit : (k p : ℕ) → (shape_of k).regs ≤ p → p < (shape_of k).regs + ((shape_of k).dsts + (shape_of k).srcs)
    → get_or (shape_of k).most p 0 ≡ reg
unfolding any_register is_register each_from all_below
register_limit k p h l =
    let s = shape_of k in
    let t = truth (any_register s) (by_kind (λ n. any_register) tt (λ n. tt) k) in
    let f = all_at (λ q. cond (is_register s q) (eqb (get_or s.most q 0) reg) true) 8 p t (omega (arith, regs_in_record k)) in
    eqb-true _ reg (rw (le-leb s.regs p h, lt-ltb p (s.regs + (s.dsts + s.srcs)) l) at f)

-- LoadArgs has no register words
pub args_bare : (shape_of load_args).regs + ((shape_of load_args).dsts + (shape_of load_args).srcs) ≡ 0
unfolding shape_of
args_bare = refl

-- ---- kinds by their actions

is_args : Action → Bool
is_args action.LoadArgs = true
is_args action.Mov = false
is_args action.Load = false
is_args action.Save = false
is_args action.LoadComplex = false
is_args action.SaveComplex = false
is_args action.Clear = false
is_args action.Other = false

-- only LoadArgs names pairs
pub args_kind : (k : ℕ) → (shape_of k).action ≡ action.LoadArgs → k ≡ load_args
unfolding is_args each_from
args_kind k e =
    let t = by_kind (λ n s. cond (is_args s.action) (eqb n load_args) true) tt (λ n. tt) k in
    let f : T (eqb k load_args) = rw e at t in
    eqb→eq k load_args f

-- an action of two halves
abbrev pub is_complex : Action → Bool
is_complex action.LoadComplex = true
is_complex action.SaveComplex = true
is_complex action.Mov = false
is_complex action.Load = false
is_complex action.Save = false
is_complex action.LoadArgs = false
is_complex action.Clear = false
is_complex action.Other = false

-- only kinds 7 and 8 have two halves, and their location stands at 3
pub complex_kind : (k : ℕ) → is_complex (shape_of k).action ≡ true → ((leb 7 k && leb k 8) ≡ true) × ((shape_of k).loc ≡ 3)
unfolding each_from
complex_kind k e =
    let a = leb 7 k && leb k 8 in
    let b = eqb (shape_of k).loc 3 in
    let t = by_kind (λ n s. cond (is_complex s.action) (leb 7 n && leb n 8 && eqb s.loc 3) true) tt (λ n. tt) k in
    let f : T (a && b) = rw e at t in
    (truth a (and_left a b f), eqb→eq _ 3 (and_right a b f))
