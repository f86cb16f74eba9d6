-- A source's value goes to a cell, on the lists themselves: the simulation and the lives after its location was cleared from
-- every colour and given to the source's.
-- Both runs store the value; or only the list's run does, where nobody looks at the cell.
use Rattle.std.specs.Prelude.{Option, Some}
use Prim.Native.Nat.{ℕ, suc, ◌≤◌, ◌<◌}
use mathlib.Core.Bool.{true, false}
use mathlib.Core.List.{List}
use mathlib.Core.Logic.{◌⊎◌, inl, inr}
use mathlib.Core.Path.{◌≡◌, refl, sym, ap, ◌∙◌}
use Rattle.mir.proofs.Clash.{clash}
use Rattle.passes.specs.declared.alloc.Alloc.{Alloc}
use Rattle.passes.specs.declared.symbol.Loc.{Loc}
use Rattle.passes.specs.Color.{colour_at, holds, clear, give}
use Rattle.passes.specs.Machine.{State, store}
use Rattle.theorems.proofs.Assign.{Live, Lives, SimIn, number_in, held_in}
use Rattle.theorems.proofs.Choice.{loc_same}
use Rattle.theorems.proofs.Locations.{give_life, clear_life, saved_holds}
use Rattle.theorems.proofs.Sim.{SameCell, into_cell, stored_at, stored_else}

-- the colours' state once colour word w was saved at l
abbrev pub saved_to : ℕ → Loc → List Alloc → List Alloc
saved_to w l allocs = give w l (clear l allocs)

pub live_save : {n i : ℕ} {E : List ℕ} {regs : List (Option ℕ)} {colours : List ℕ} {allocs : List Alloc} (w : ℕ) (l : Loc)
    → Live n i E regs colours allocs → Live n i E regs colours (saved_to w l allocs)
live_save {n} {i} {E} {regs} {colours} {allocs} w l live = record { of = λ r t q k. lives t (live.of r t q k) }
  where
    lives : (t : ℕ) → Lives n E colours allocs t → Lives n E colours (saved_to w l allocs) t
    lives t h =
        let k = number_in colours t in
        record { long = rw (give_life w l (clear l allocs) k ∙ clear_life l allocs k) h.long; below = h.below }

-- record i, or one source of it: the runs agree before it (j is i), or after another source (j is suc i); w has the value v
module _ {Value : Type 0} {n j i : ℕ} {E : List ℕ} {Seen : ℕ → ℕ → Type 0} {regs : List (Option ℕ)} {colours : List ℕ} {allocs : List Alloc} {A B : State Value}
    (early : j ≤ suc i) (live : Live n j E regs colours allocs) (sim : SimIn n E Seen j regs colours allocs A B) (w : ℕ) (l : Loc) (v : Value) (has : B.reg w ≡ v) where
  saved : (k : ℕ) (m : Loc) → k < n → held_in (saved_to w l allocs) k ≡ Some m
      → (SameCell l.space l.index m.space m.index × (B.reg k ≡ v)) ⊎ ((SameCell l.space l.index m.space m.index → ⊥) × (held_in allocs k ≡ Some m))
  saved k m h q = go (saved_holds w l allocs k m q)
    where
      go : ((k ≡ w) × (l ≡ m)) ⊎ (((colour_at allocs k).loc ≡ Some m) × (holds (Some m) l ≡ false))
          → (SameCell l.space l.index m.space m.index × (B.reg k ≡ v)) ⊎ ((SameCell l.space l.index m.space m.index → ⊥) × (held_in allocs k ≡ Some m))
      go (inl a) = inl ((ap (λ (x : Loc). x.space) (sym a.1), ap (λ (x : Loc). x.index) (sym a.1)), rw a.0 has)
      go (inr a) = inr (apart, a.0)
        where
          apart : SameCell l.space l.index m.space m.index → ⊥
          apart b =
              let f : holds (Some m) l ≡ true = rw (b.0, b.1) (loc_same l) in
              clash (cc)

  -- both runs store it
  pub sim_store : SimIn n E Seen (suc i) regs colours (saved_to w l allocs) (store l.space l.index v A) (store l.space l.index v B)
  sim_store =
      into_cell early sim
      (record {
        reg = λ r. refl;
        const = λ k. refl;
        here = λ h. stored_at l.space l.index v B;
        other = stored_else l.space l.index v B;
        holds = saved;
      })

  -- the list's run stores it
  pub sim_unseen : (Seen l.space l.index → ⊥) → SimIn n E Seen (suc i) regs colours (saved_to w l allocs) (store l.space l.index v A) B
  sim_unseen unseen =
      into_cell early sim
      (record { reg = λ r. refl; const = λ k. refl; here = λ h. absurd (unseen h); other = λ q x h. refl; holds = saved })
