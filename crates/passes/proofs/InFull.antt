-- What `Keeps` says, in full.
-- The choices by their place among the destinations; the runs field by field.
use Rattle.std.specs.Prelude.{Option, None}
use Prim.Native.Nat.{ℕ, zero, suc, ◌≤◌, ◌<◌}
use mathlib.Core.Bool.{true}
use mathlib.Core.List.{List, [], ◌∷◌}
use mathlib.Core.Logic.{◌⊎◌, inl, inr, ⊎_elim}
use mathlib.Core.Path.{◌≡◌}
use lib.ListN.{get_or, take}
use borrow.Author.Tests.{leb-true}
use Rattle.mir.specs.declared.config.Settings.{Settings}
use Rattle.mir.specs.Answers.{Verdict, Passed}
use Rattle.mir.specs.Records.{is_gen}
use Rattle.mir.proofs.Clash.{clash}
use Rattle.passes.specs.declared.symbol.Loc.{Loc}
use Rattle.passes.specs.Color.{setup, Coloring, colour_at, choice_for, is_found, HasPool, HavePools, after_dest, after_dests, dests_at, color_to, PoolsNeverEmpty}
use Rattle.passes.specs.Machine.{State, Word, EndsEqual, Keeps}
use Rattle.passes.specs.Promise.{dest_of, before_dest, EachChoice, EndAlike, InFull}

-- the choice of destination k
choice_has : (n i : ℕ) (ends : List ℕ) (ds : List (ℕ × Option Loc)) (st : Coloring) → HavePools n i ends ds st → (k : ℕ)
    → is_gen (get_or ds k (256, None)).0 ≡ true → HasPool n i (get_or ds k (256, None)).1 (after_dests n i ends (take k ds) st)
unfolding after_dests
choice_has n i ends [] st h k g = clash (cc)
choice_has n i ends (d ∷ ds) st h zero g = h.0 g
choice_has n i ends (d ∷ ds) st h (suc k) g = choice_has n i ends ds (after_dest n i ends d.0 d.1 st) h.1 k g

-- a colour of the pool is not needed
not_needed : (n i : ℕ) (held : Option Loc) (st : Coloring) → HasPool n i held st
    → (is_found (choice_for n i held st) ≡ true) ⊎ ((c : ℕ) × (c < n) × ((colour_at st.allocs c).life ≤ i))
not_needed n i held st h = ⊎_elim inl (λ p. inr (p.0, p.1, leb-true (colour_at st.allocs p.0).life i p.2)) h

each_choice : (s : Settings) (list table : List ℕ) → PoolsNeverEmpty s list table → EachChoice (setup s list table)
each_choice s list table h i k l g =
    let u = setup s list table in
    not_needed u.count i (dest_of u i k).1 (before_dest u i k) (choice_has u.count i u.ends (dests_at u i (color_to u i)) (color_to u i) (h i l) k g)

alike : (s : Settings) {a b : State Word} → EndsEqual s a b → EndAlike s a b
alike s h = record { named = h.named; mem = h.mem; param = h.param; stack = h.stack }

pub promise_in_full : (v : Verdict) (s : Settings) (list table short : List ℕ)
    → Keeps v s list table short → v ≡ Passed → InFull s list table short
promise_in_full v s list table short k q =
    let runs = k.runs q in
    record {
      choices = each_choice s list table (k.pools q);
      straight = λ h U B F X Y J start. alike s (runs.straight h U B F X Y J start);
      branches = λ h U B F X Y J start n z e.
          let up = runs.branches h U B F X Y J start n z e in
          (up.steps, up.end, up.at_most, up.ends, alike s up.equal);
    }
