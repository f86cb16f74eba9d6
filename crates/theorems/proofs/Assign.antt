-- One Gen destination, on the lists themselves: the simulation and the lives after its colour was assigned.
-- The functions of `Sim` are the lists' entries; a store in a list changes one entry, and a list that grows keeps the
-- entries that it had.
use Rattle.std.specs.Prelude.{Option, Some, None}
use Prim.Native.Nat.{ℕ, suc, ◌≤◌, ◌<◌, max}
use mathlib.Core.List.{List, [], ◌∷◌, ◌++◌}
use mathlib.Core.Logic.{◌⊎◌, ⊎_elim}
use mathlib.Core.Path.{◌≡◌, sym, ap, ◌∙◌}
use native.Mathlib.Nat.{le-max_left, le-max_right}
use native.Mathlib.Omega.{arith}
use lib.ListN.{length, get_or, set, get_or-append, get_or-eq_default}
use lib.Seq.{get_or-set_same, get_or-set_other, get_or-append_seam}
use native.Mathlib.Decide.{dec_lt}
use Rattle.mir.proofs.Clash.{clash, same_or}
use Rattle.passes.specs.declared.alloc.Alloc.{Alloc}
use Rattle.passes.specs.declared.symbol.Loc.{Loc}
use Rattle.passes.specs.Color.{alloc, colour_at, assign}
use Rattle.passes.specs.Machine.{State, write}
use Rattle.theorems.proofs.Create.{Names}
use Rattle.theorems.proofs.Sim.{Sim, Assigned, into_gen}
use Rattle.theorems.proofs.Update.{upd, upd_at, upd_else}

-- a register's static, a static's colour and end, and a colour's location, from the lists
abbrev pub static_in : List (Option ℕ) → ℕ → Option ℕ
static_in regs r = get_or regs r None

abbrev pub number_in : List ℕ → ℕ → ℕ
number_in l s = get_or l s 0

abbrev pub held_in : List Alloc → ℕ → Option Loc
held_in allocs c = (colour_at allocs c).loc

-- the simulation over the lists
abbrev pub SimIn : {Value : Type 0} (n : ℕ) → List ℕ → (ℕ → ℕ → Type 0) → ℕ → List (Option ℕ) → List ℕ → List Alloc → State Value → State Value → Type 0
SimIn n E Seen i regs colours allocs A B = Sim n (number_in E) Seen i (static_in regs) (number_in colours) (held_in allocs) A B

-- the colour of a register's static is one of the n, and lives as long as the static
pub record Lives (n : ℕ) (E colours : List ℕ) (allocs : List Alloc) (t : ℕ) : Type 0 where
  pub long : number_in E t ≤ (colour_at allocs (number_in colours t)).life
  pub below : number_in colours t < n

-- and so does each that is still to be read at i or later: one that ended before owes nothing
pub record Live (n i : ℕ) (E : List ℕ) (regs : List (Option ℕ)) (colours : List ℕ) (allocs : List Alloc) : Type 0 where
  pub of : (r t : ℕ) → static_in regs r ≡ Some t → i ≤ number_in E t → Lives n E colours allocs t

-- what is still to be read later is no more
pub live_later : {n i j : ℕ} {E : List ℕ} {regs : List (Option ℕ)} {colours : List ℕ} {allocs : List Alloc} → i ≤ j
    → Live n i E regs colours allocs → Live n j E regs colours allocs
live_later h live = record { of = λ r t e l. live.of r t e (omega arith) }

-- a register that holds a static is in the list
pub holds_inside : (regs : List (Option ℕ)) (r t : ℕ) → static_in regs r ≡ Some t → r < length regs
holds_inside regs r t e = go (dec_lt r (length regs))
  where
    go : Dec (r < length regs) → r < length regs
    go (yes h) = h
    go (no h) =
        let past : length regs ≤ r = omega (arith, h) in
        let d = get_or-eq_default regs None past in
        clash (cc)

-- Gen register d gets the next static, in colour c; v is what it is given, and B' the reduced run's state then: it has v in
-- c and nothing else new. Either c was free, or v was there already
pub record Gets {Value : Type 0} (n i : ℕ) (regs : List (Option ℕ)) (allocs : List Alloc) (A B B' : State Value) (d c : ℕ) (h : Option Loc) (v : Value) : Type 0 where
  pub gen : d < n
  pub colour : c < n
  pub few : n ≤ 256
  pub wide : n ≤ length regs
  pub enough : n ≤ length allocs
  pub reg : (k : ℕ) → B'.reg k ≡ upd B.reg c v k
  pub cell : (p x : ℕ) → B'.cell p x ≡ B.cell p x
  pub const : (k : ℕ) → B'.const k ≡ B.const k
  pub safe : ((colour_at allocs c).life ≤ i) ⊎ (v ≡ B.reg c)
  pub holds : (l : Loc) → h ≡ Some l → v ≡ A.cell l.space l.index

-- the destination of record i, the runs agreeing before it (j is i), or after another destination (j is suc i)
module _ {Value : Type 0} {n j i : ℕ} {E : List ℕ} {Seen : ℕ → ℕ → Type 0} {regs : List (Option ℕ)} {colours : List ℕ}
    {allocs : List Alloc} {A B B' : State Value} {d c : ℕ} {h : Option Loc} {v : Value}
    (early : j ≤ suc i) (names : Names regs (length colours)) (live : Live n j E regs colours allocs) (sim : SimIn n E Seen j regs colours allocs A B)
    (g : Gets n i regs allocs A B B' d c h v) where
  m : ℕ
  m = length colours

  end : ℕ
  unfolding m
  end = number_in E m

  new : Alloc
  unfolding end
  new = alloc (max (colour_at allocs c).life end) h

  -- a static that was held keeps its colour
  old_colour : (r t : ℕ) → static_in regs r ≡ Some t → number_in (colours ++ c ∷ []) t ≡ number_in colours t
  old_colour r t e = get_or-append colours (c ∷ []) 0 t (names.below r t e)

  -- no register that is needed later has lost its value
  safe : (r t : ℕ) → static_in regs r ≡ Some t → suc i ≤ number_in E t → B'.reg (number_in colours t) ≡ B.reg (number_in colours t)
  safe r t e l =
      rw (g.reg (number_in colours t))
      (⊎_elim (λ (q : number_in colours t ≡ c). rw (q, upd_at B.reg c v) (at_c q))
      (λ (q : number_in colours t ≡ c → ⊥). upd_else B.reg c v (number_in colours t) q) (same_or (number_in colours t) c))
    where
      at_c : number_in colours t ≡ c → v ≡ B.reg c
      at_c q = ⊎_elim (λ (f : (colour_at allocs c).life ≤ i). absurd (omega (arith, f, rw q at (live.of r t e (omega arith)).long))) (λ f. f) g.safe

  here : colour_at (set allocs c new) c ≡ new
  here = get_or-set_same allocs c new (alloc 0 None) (omega (arith, g.colour, g.enough))

  locations : (k : ℕ) (l : Loc) → k < n → held_in (set allocs c new) k ≡ Some l → B'.reg k ≡ A.cell l.space l.index
  unfolding new
  locations k l q e =
      rw (g.reg k)
      (⊎_elim
      (λ (f : k ≡ c). rw (f, upd_at B.reg c v) (g.holds l (sym (ap (λ (a : Alloc). a.loc) here) ∙ rw f at e)))
      (λ (f : k ≡ c → ⊥).
      rw (upd_else B.reg c v k f) (sim.held k l q (sym (ap (λ (a : Alloc). a.loc) (get_or-set_other allocs c k new (alloc 0 None) f)) ∙ e)))
      (same_or k c))

  assigned : Assigned n (number_in E) i (static_in regs) (number_in colours) (number_in (colours ++ c ∷ [])) (held_in (set allocs c new)) A B B' d m c v
  unfolding m
  assigned =
      record {
        gen = omega (arith, g.gen, g.few);
        new = get_or-append_seam colours c [] 0;
        old = old_colour;
        here = g.reg c ∙ upd_at B.reg c v;
        named = λ r l. g.reg r ∙ upd_else B.reg c v r (λ (q : r ≡ c). omega (arith, g.colour, g.few));
        const = g.const;
        cells = g.cell;
        safe = λ r t q e l. safe r t e l;
        holds = locations;
      }

  -- the list's entry after the store is the function with another value at d
  entry : (r t : ℕ) → static_in (set regs d (Some m)) r ≡ Some t → upd (static_in regs) d (Some m) r ≡ Some t
  entry r t e =
      ⊎_elim
      (λ (q : r ≡ d). rw (q, upd_at (static_in regs) d (Some m)) (sym (get_or-set_same regs d (Some m) None (omega (arith, g.gen, g.wide))) ∙ rw q at e))
      (λ (q : r ≡ d → ⊥). upd_else (static_in regs) d (Some m) r q ∙ (sym (get_or-set_other regs d r (Some m) None q) ∙ e)) (same_or r d)

  pub sim_assign : SimIn n E Seen (suc i) (set regs d (Some (length colours))) (colours ++ c ∷ []) (assign allocs c (number_in E (length colours)) h) (write d v A) B'
  unfolding m end new
  sim_assign =
      let s = into_gen early sim assigned in
      record { named = s.named; const = s.const; cells = s.cells; regs = λ r t e l. s.regs r t (entry r t e) l; held = s.held }

  pub live_assign : Live n (suc i) E (set regs d (Some (length colours))) (colours ++ c ∷ []) (assign allocs c (number_in E (length colours)) h)
  unfolding m end new
  live_assign = record { of = λ r t e l. ⊎_elim (at_d r t e) (elsewhere r t e l) (same_or r d) }
    where
      longer : (k t : ℕ) → number_in E t ≤ (colour_at allocs k).life → number_in E t ≤ (colour_at (set allocs c new) k).life
      longer k t l =
          ⊎_elim (λ (f : k ≡ c). rw (f, here) (omega (arith, rw f at l, le-max_left (colour_at allocs c).life end)))
          (λ (f : k ≡ c → ⊥). rw (get_or-set_other allocs c k new (alloc 0 None) f) l) (same_or k c)

      at_d : (r t : ℕ) → static_in (set regs d (Some m)) r ≡ Some t → r ≡ d → Lives n E (colours ++ c ∷ []) (set allocs c new) t
      at_d r t e q =
          let f = rw q at e in
          let k = get_or-set_same regs d (Some m) None (omega (arith, g.gen, g.wide)) in
          let z : m ≡ t = cc in
          record {
            long = rw (← z, get_or-append_seam colours c [] 0, here) (le-max_right (colour_at allocs c).life end);
            below = rw (← z, get_or-append_seam colours c [] 0) g.colour;
          }

      elsewhere : (r t : ℕ) → static_in (set regs d (Some m)) r ≡ Some t → suc i ≤ number_in E t → (r ≡ d → ⊥) → Lives n E (colours ++ c ∷ []) (set allocs c new) t
      elsewhere r t e l q =
          let f : static_in regs r ≡ Some t = sym (get_or-set_other regs d r (Some m) None q) ∙ e in
          let w = live.of r t f (omega arith) in
          record { long = rw (old_colour r t f) (longer (number_in colours t) t w.long); below = rw (old_colour r t f) w.below }
