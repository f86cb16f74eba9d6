-- A run that has reached its end stays there: so it does so in a least number of steps, and in one state. And a run of a list of straight
-- kinds reaches its end in at most as many steps as it has records, in the state of the straight machine's run (`straight_runs`).
-- By induction on the steps; in a straight list step i runs record i.
use Prim.Native.Nat.{ℕ, zero, suc, ◌+◌, ◌-◌, ◌≤◌, ◌<◌}
use mathlib.Core.Bool.{Bool, true, false, or-true}
use mathlib.Core.List.{List}
use mathlib.Core.Logic.{◌⊎◌, inl, inr, ⊎_elim}
use mathlib.Core.Path.{◌≡◌, refl, sym, ap, ◌∙◌}
use native.Mathlib.Decide.{dec_lt}
use native.Mathlib.Omega.{arith}
use lib.Dec.{eqb}
use borrow.Author.Tests.{eqb-true, le-leb, lt-leb}
use Rattle.mir.specs.Records.{records, record_at, word_at}
use Rattle.mir.specs.Shapes.{branch, branch_if}
use Rattle.mir.proofs.Clash.{clash}
use Rattle.passes.specs.Machine.{Meaning, State, Point, effect, turn, run_to, run, jumps, step, ended, onward, steps_to, EndsIn, is_straight, AllStraight}
use Rattle.theorems.proofs.Rows.{kind_at}

pub not_both {ℓ} : {P : Type ℓ} {b : Bool} → b ≡ true → b ≡ false → P
not_both e f =
    let g = sym e ∙ f in
    clash (cc)

-- a straight kind is no branch
pub other_kind : (k j : ℕ) → is_straight k ≡ true → is_straight j ≡ false → eqb k j ≡ false
other_kind k j straight not_straight = go (eqb k j) refl
  where
    go : (b : Bool) → eqb k j ≡ b → b ≡ false
    go false e = refl
    go true e =
        let f : is_straight j ≡ true = rw (eqb-true k j e) at straight in
        not_both f not_straight

pub straight_goes_on : {Value : Type 0} (m : Meaning Value) (rec : List ℕ) (st : State Value) → is_straight (word_at rec 0) ≡ true → jumps m rec st ≡ false
unfolding jumps
straight_goes_on m rec st h = rw (other_kind (word_at rec 0) branch h refl, other_kind (word_at rec 0) branch_if h refl)

-- a turn of a run that is not over is the record's effect, and one that is over stays
pub turn_runs : {Value : Type 0} (m : Meaning Value) (rec : List ℕ) (st : State Value) → st.over ≡ false → turn m rec st ≡ effect m rec st
unfolding turn
turn_runs m rec st h = rw h

pub turn_over : {Value : Type 0} (m : Meaning Value) (rec : List ℕ) (st : State Value) → st.over ≡ true → turn m rec st ≡ st
unfolding turn
turn_over m rec st h = rw h

-- a run that is not over, at a record of the list
pub runs : {Value : Type 0} (list : List ℕ) (p : Point Value) → p.state.over ≡ false → p.at < records list → ended list p ≡ false
unfolding ended
runs list p e l = rw (e, lt-leb (records list) p.at l)

pub over_ended : {Value : Type 0} (list : List ℕ) (p : Point Value) → p.state.over ≡ true → ended list p ≡ true
unfolding ended
over_ended list p e = rw e

pub past_ended : {Value : Type 0} (list : List ℕ) (p : Point Value) → records list ≤ p.at → ended list p ≡ true
unfolding ended
past_ended list p l = rw (le-leb (records list) p.at l) (or-true p.state.over)

-- a run stays where it has ended, and else makes a step
pub onward_ended : {Value : Type 0} (m : Meaning Value) (list : List ℕ) (p : Point Value) → ended list p ≡ true → onward m list p ≡ p
unfolding onward
onward_ended m list p e = rw e

pub onward_runs : {Value : Type 0} (m : Meaning Value) (list : List ℕ) (p : Point Value) → ended list p ≡ false → onward m list p ≡ step m list p
unfolding onward
onward_runs m list p e = rw e

module _ {Value : Type 0} (m : Meaning Value) (list : List ℕ) (start : State Value) where
  abbrev at : ℕ → Point Value
  at n = steps_to m list start n

  -- ---- the end

  stays : (k d : ℕ) → ended list (at k) ≡ true → at (d + k) ≡ at k
  unfolding steps_to onward
  stays k zero h = rw native.Mathlib.Nat.zero-add refl
  stays k (suc d) h = rw (native.Mathlib.Nat.suc-add, stays k d h, h)

  not_ended : (j : ℕ) → ended list (at j) ≡ false → (k : ℕ) → k ≤ j → ended list (at k) ≡ false
  not_ended j h k l = go (ended list (at k)) refl
    where
      go : (b : Bool) → ended list (at k) ≡ b → b ≡ false
      go false e = refl
      go true e =
          let q : j - k + k ≡ j = omega arith in
          let f : at j ≡ at k = rw q at (stays k (j - k) e) in
          not_both (ap (ended list) f ∙ e) h

  pub first_end : (j : ℕ) → ended list (at j) ≡ true → (k : ℕ) × (k ≤ j) × EndsIn m list start k (at j).state
  unfolding steps_to onward
  first_end zero h = (0, omega arith, record { reached = h; not_before = λ k l. absurd (omega arith); state = refl })
  first_end (suc j) h = go (ended list (at j)) refl (first_end j)
    where
      go : (b : Bool) → ended list (at j) ≡ b → (ended list (at j) ≡ true → (k : ℕ) × (k ≤ j) × EndsIn m list start k (at j).state)
          → (k : ℕ) × (k ≤ suc j) × EndsIn m list start k (at (suc j)).state
      go true e up =
          let r = up e in
          (r.0, omega (arith, r.1), rw e r.2)
      go false e up = (suc j, omega arith, record { reached = h; not_before = λ k l. not_ended j e k (omega arith); state = refl })

  pub ends_once : {n k : ℕ} {y z : State Value} → EndsIn m list start n y → EndsIn m list start k z → y ≡ z
  ends_once {n} {k} {y} {z} a b = go (dec_lt n k) (dec_lt k n)
    where
      go : Dec (n < k) → Dec (k < n) → y ≡ z
      go (yes h) d = not_both a.reached (b.not_before n h)
      go (no g) (yes h) = not_both b.reached (a.not_before k h)
      go (no g) (no h) =
          let e : n ≡ k = omega (arith, g, h) in
          sym a.state ∙ rw e b.state

  -- ---- a list of straight kinds

  module _ (straight : (i : ℕ) → i < records list → is_straight (word_at (record_at list i) 0) ≡ true) where
    -- after i steps: the straight machine's state, and over or at record i
    record At (i : ℕ) : Type 0 where
      pub state : (at i).state ≡ run_to m list start i
      pub spot : ((at i).state.over ≡ true) ⊎ ((at i).at ≡ i)

    goes_next : (i : ℕ) (st : State Value) → i < records list → st.over ≡ false
        → onward m list (record { at = i; state = st }) ≡ record { at = suc i; state = effect m (record_at list i) st }
    unfolding onward step
    goes_next i st l e = rw (runs list (record { at = i; state = st }) e l, straight_goes_on m (record_at list i) st (straight i l))

    at_next : (i : ℕ) → i < records list → At i → At (suc i)
    unfolding steps_to run_to
    at_next i l g = go (at i).state.over refl g.spot
      where
        go : (b : Bool) → (at i).state.over ≡ b → ((at i).state.over ≡ true) ⊎ ((at i).at ≡ i) → At (suc i)
        go true e h =
            record {
              state = ap (λ (p : Point Value). p.state) stopped ∙ (g.state ∙ sym (turn_over m (record_at list i) (run_to m list start i) (ap (λ (st : State Value). st.over) (sym g.state) ∙ e)));
              spot = inl (ap (λ (p : Point Value). p.state.over) stopped ∙ e);
            }
          where
            stopped : at (suc i) ≡ at i
            stopped = onward_ended m list (at i) (over_ended list (at i) e)
        go false e (inl f) = not_both f e
        go false e (inr f) =
            record {
              state = ap (λ (p : Point Value). p.state) there ∙ (sym (turn_runs m (record_at list i) (at i).state e) ∙ ap (turn m (record_at list i)) g.state);
              spot = inr (ap (λ (p : Point Value). p.at) there);
            }
          where
            there : at (suc i) ≡ record { at = suc i; state = effect m (record_at list i) (at i).state }
            there = ap (λ (x : ℕ). onward m list (record { at = x; state = (at i).state })) f ∙ goes_next i (at i).state l e

    at_to : (i : ℕ) → i ≤ records list → At i
    unfolding steps_to run_to
    at_to zero l = record { state = refl; spot = inr refl }
    at_to (suc i) l = at_next i (omega arith) (at_to i (omega arith))

    ends : ended list (at (records list)) ≡ true
    ends =
        let n = records list in
        ⊎_elim (over_ended list (at n)) (λ (h : (at n).at ≡ n). past_ended list (at n) (omega (arith, h))) (at_to n (omega arith)).spot

  pub straight_runs : AllStraight list → (n : ℕ) × (n ≤ records list) × EndsIn m list start n (run m list start)
  unfolding run
  straight_runs h =
      let each = kind_at list is_straight h in
      let e = first_end (records list) (ends each) in
      (e.0, e.1, rw (← (at_to each (records list) (omega arith)).state) e.2)
