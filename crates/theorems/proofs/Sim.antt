-- The simulation between a run of the list and a run of its reduced list, as far as record i: what agrees, and how each
-- sort of record keeps it.
-- Everything is a plain function of a number here: a register's static, a static's colour and end, a colour's location.
-- A record changes a function in one place, and a colour that is chosen free is none that is needed later.
use Rattle.mir.proofs.Clash.{same_or}
use Rattle.std.specs.Prelude.{Option, Some}
use Prim.Native.Nat.{ℕ, suc, ◌≤◌, ◌<◌}
use mathlib.Core.Logic.{◌⊎◌, inl, inr, ⊎_elim}
use mathlib.Core.Path.{◌≡◌, refl, sym, ◌∙◌}
use native.Mathlib.Omega.{arith}
use borrow.Author.Tests.{eq-eqb, ne_eqb}
use Rattle.passes.specs.declared.symbol.Loc.{Loc}
use Rattle.passes.specs.Machine.{State, write, store}
use Rattle.theorems.proofs.Update.{upd, upd_at, upd_else}

-- ---- cells

-- cell (q, y) is cell (p, x)
abbrev pub SameCell : (p x q y : ℕ) → Type 0
SameCell p x q y = (q ≡ p) × (y ≡ x)

pub same_cell_or : (p x q y : ℕ) → SameCell p x q y ⊎ (SameCell p x q y → ⊥)
same_cell_or p x q y = go (same_or q p) (same_or y x)
  where
    go : (q ≡ p) ⊎ (q ≡ p → ⊥) → (y ≡ x) ⊎ (y ≡ x → ⊥) → SameCell p x q y ⊎ (SameCell p x q y → ⊥)
    go (inl a) (inl b) = inl (a, b)
    go (inl a) (inr b) = inr (λ k. b k.1)
    go (inr a) t = inr (λ k. a k.0)

-- a cell after a store
pub stored_at : {Value : Type 0} (p x : ℕ) (v : Value) (A : State Value) → (store p x v A).cell p x ≡ v
stored_at p x v A = rw (eq-eqb p p refl, eq-eqb x x refl)

pub stored_else : {Value : Type 0} (p x : ℕ) (v : Value) (A : State Value) (q y : ℕ) → (SameCell p x q y → ⊥) → (store p x v A).cell q y ≡ A.cell q y
stored_else p x v A q y k = go (same_or q p) (same_or y x)
  where
    go : (q ≡ p) ⊎ (q ≡ p → ⊥) → (y ≡ x) ⊎ (y ≡ x → ⊥) → (store p x v A).cell q y ≡ A.cell q y
    go (inl a) (inl b) = absurd (k (a, b))
    go (inl a) (inr b) = rw (eq-eqb q p a, ne_eqb y x b)
    go (inr a) t = rw (ne_eqb q p a)

-- ---- what agrees

-- n colours, E each static's end, Seen the cells that somebody looks at: after the run, or a record of the reduced list.
-- Before record i, with ρ each register's static, κ each static's colour and hold each colour's location: a run of the
-- list has come to A, and one of what was put out and kept to B
pub record Sim {Value : Type 0} (n : ℕ) (E : ℕ → ℕ) (Seen : ℕ → ℕ → Type 0) (i : ℕ) (ρ : ℕ → Option ℕ) (κ : ℕ → ℕ) (hold : ℕ → Option Loc) (A B : State Value) : Type 0 where
  pub named : (r : ℕ) → 256 ≤ r → A.reg r ≡ B.reg r
  pub const : (k : ℕ) → A.const k ≡ B.const k
  pub cells : (p x : ℕ) → Seen p x → A.cell p x ≡ B.cell p x
  pub regs : (r s : ℕ) → ρ r ≡ Some s → i ≤ E s → A.reg r ≡ B.reg (κ s)
  pub held : (c : ℕ) (l : Loc) → c < n → hold c ≡ Some l → B.reg c ≡ A.cell l.space l.index

-- Gen register d gets static s, in colour c, with the value v; B' is the reduced run's state then, κ' the colours and
-- hold' the locations. `safe`: no other register that is needed later lost its colour's value
pub record Assigned {Value : Type 0} (n : ℕ) (E : ℕ → ℕ) (i : ℕ) (ρ : ℕ → Option ℕ) (κ κ' : ℕ → ℕ) (hold' : ℕ → Option Loc) (A B B' : State Value) (d s c : ℕ) (v : Value) : Type 0 where
  pub gen : d < 256
  pub new : κ' s ≡ c
  pub old : (r t : ℕ) → ρ r ≡ Some t → κ' t ≡ κ t
  pub here : B'.reg c ≡ v
  pub named : (r : ℕ) → 256 ≤ r → B'.reg r ≡ B.reg r
  pub const : (k : ℕ) → B'.const k ≡ B.const k
  pub cells : (p x : ℕ) → B'.cell p x ≡ B.cell p x
  pub safe : (r t : ℕ) → (r ≡ d → ⊥) → ρ r ≡ Some t → suc i ≤ E t → B'.reg (κ t) ≡ B.reg (κ t)
  pub holds : (k : ℕ) (l : Loc) → k < n → hold' k ≡ Some l → B'.reg k ≡ A.cell l.space l.index

-- cell (p, x) gets the value v in the list's run; B' is the reduced run's state then, which has it too if somebody looks
-- there, and hold' the locations
pub record Stored {Value : Type 0} (n : ℕ) (Seen : ℕ → ℕ → Type 0) (hold hold' : ℕ → Option Loc) (B B' : State Value) (p x : ℕ) (v : Value) : Type 0 where
  pub reg : (r : ℕ) → B'.reg r ≡ B.reg r
  pub const : (k : ℕ) → B'.const k ≡ B.const k
  pub here : Seen p x → B'.cell p x ≡ v
  pub other : (q y : ℕ) → (SameCell p x q y → ⊥) → B'.cell q y ≡ B.cell q y
  pub holds : (k : ℕ) (l : Loc) → k < n → hold' k ≡ Some l
      → (SameCell p x l.space l.index × (B.reg k ≡ v)) ⊎ ((SameCell p x l.space l.index → ⊥) × (hold k ≡ Some l))

-- record i, or one destination of it: the runs agree before it (k is i), or after another destination (k is suc i)
module _ {Value : Type 0} {n : ℕ} {E : ℕ → ℕ} {Seen : ℕ → ℕ → Type 0} {k i : ℕ} {ρ : ℕ → Option ℕ} {κ : ℕ → ℕ} {hold : ℕ → Option Loc} {A B : State Value}
    (early : k ≤ suc i) (sim : Sim n E Seen k ρ κ hold A B) where
  -- the index goes on: what is needed from the next record on was needed from this one on
  pub sim_next : Sim n E Seen (suc i) ρ κ hold A B
  sim_next =
      record {
        named = sim.named;
        const = sim.const;
        cells = sim.cells;
        regs = λ r s e l. sim.regs r s e (omega arith);
        held = sim.held;
      }

  pub into_gen : {κ' : ℕ → ℕ} {hold' : ℕ → Option Loc} {B' : State Value} {d s c : ℕ} {v : Value} → Assigned n E i ρ κ κ' hold' A B B' d s c v
      → Sim n E Seen (suc i) (upd ρ d (Some s)) κ' hold' (write d v A) B'
  into_gen {κ'} {hold'} {B'} {d} {s} {c} {v} g =
      record {
        named = λ r h. rw (upd_else A.reg d v r (λ e. omega (arith, g.gen))) (sim.named r h ∙ sym (g.named r h));
        const = λ k. sim.const k ∙ sym (g.const k);
        cells = λ p x h. sim.cells p x h ∙ sym (g.cells p x);
        regs = λ r t e l. ⊎_elim (at_d r t e) (λ (h : r ≡ d → ⊥). elsewhere r t h e l) (same_or r d);
        held = g.holds;
      }
    where
      at_d : (r t : ℕ) → upd ρ d (Some s) r ≡ Some t → r ≡ d → upd A.reg d v r ≡ B'.reg (κ' t)
      at_d r t e h =
          let f : Some s ≡ Some t = sym (upd_at ρ d (Some s)) ∙ rw h at e in
          let q : s ≡ t = cc in
          rw (h, upd_at A.reg d v, ← q, g.new) (sym g.here)

      elsewhere : (r t : ℕ) → (r ≡ d → ⊥) → upd ρ d (Some s) r ≡ Some t → suc i ≤ E t → upd A.reg d v r ≡ B'.reg (κ' t)
      elsewhere r t h e l =
          let f : ρ r ≡ Some t = sym (upd_else ρ d (Some s) r h) ∙ e in
          rw (upd_else A.reg d v r h, g.old r t f, g.safe r t h f l) (sim.regs r t f (omega arith))

  -- a named register w gets the value v in both runs; the registers that hold statics still to be read, and their colours, are Gen
  pub into_named : (w : ℕ) (v : Value) → 256 ≤ w → n ≤ 256 → ((r s : ℕ) → ρ r ≡ Some s → k ≤ E s → (r < 256) × (κ s < n))
      → Sim n E Seen (suc i) ρ κ hold (write w v A) (write w v B)
  into_named w v h few small =
      record {
        named = λ r l.
            ⊎_elim (λ (e : r ≡ w). rw (e, upd_at A.reg w v, upd_at B.reg w v))
            (λ (g : r ≡ w → ⊥). rw (upd_else A.reg w v r g, upd_else B.reg w v r g) (sim.named r l)) (same_or r w);
        const = sim.const;
        cells = sim.cells;
        regs = λ r s e l.
            rw (
              upd_else A.reg w v r (λ (q : r ≡ w). omega (arith, (small r s e (omega arith)).0)),
              upd_else B.reg w v (κ s) (λ (q : κ s ≡ w). omega (arith, (small r s e (omega arith)).1)),
            )
            (sim.regs r s e (omega arith));
        held = λ c l k e. rw (upd_else B.reg w v c (λ (q : c ≡ w). omega arith)) (sim.held c l k e);
      }

  pub into_cell : {hold' : ℕ → Option Loc} {B' : State Value} {p x : ℕ} {v : Value} → Stored n Seen hold hold' B B' p x v
      → Sim n E Seen (suc i) ρ κ hold' (store p x v A) B'
  into_cell {hold'} {B'} {p} {x} {v} g =
      record {
        named = λ r h. sim.named r h ∙ sym (g.reg r);
        const = λ k. sim.const k ∙ sym (g.const k);
        cells = λ q y h.
            ⊎_elim (at_cell q y h) (λ (k : SameCell p x q y → ⊥). rw (stored_else p x v A q y k, g.other q y k) (sim.cells q y h)) (same_cell_or p x q y);
        regs = λ r s e l. sim.regs r s e (omega arith) ∙ sym (g.reg (κ s));
        held = λ k l h e. rw (g.reg k) (holder k l h (g.holds k l h e));
      }
    where
      at_cell : (q y : ℕ) → Seen q y → SameCell p x q y → (store p x v A).cell q y ≡ B'.cell q y
      at_cell q y h k =
          let seen : Seen p x = rw (k.0, k.1) at h in
          rw (k.0, k.1, stored_at p x v A) (sym (g.here seen))

      holder : (k : ℕ) (l : Loc) → k < n
          → (SameCell p x l.space l.index × (B.reg k ≡ v)) ⊎ ((SameCell p x l.space l.index → ⊥) × (hold k ≡ Some l))
          → B.reg k ≡ (store p x v A).cell l.space l.index
      holder k l h (inl a) = rw (a.0.0, a.0.1, stored_at p x v A) a.1
      holder k l h (inr a) = rw (stored_else p x v A l.space l.index a.0) (sim.held k l h a.1)
