-- Demand 3, `keeps_up`: for every list, table and settings that pass section 7, of all kinds but 10 to 12, over values of any type, under
-- every meaning and from every state: if the run of the list reaches its end in n steps, the run of its reduced list does so in at most n,
-- and the two end equal. For lists of straight kinds `preserved` follows: the straight machine's runs of the two end equal.
-- By induction on the steps of the list's run: the two have met after each (`Meets`), the reduced one having made no more steps.
use Prim.Native.Nat.{ℕ, zero, suc, ◌≤◌, ◌<◌}
use mathlib.Core.Bool.{Bool, true, false, cond}
use mathlib.Core.List.{List}
use mathlib.Core.Logic.{◌⊎◌, inl, inr, ⊎_elim}
use mathlib.Core.Path.{◌≡◌, refl, subst, ◌∙◌}
use native.Mathlib.Decide.{dec_lt}
use native.Mathlib.Omega.{arith}
use Rattle.mir.proofs.Renaming.{not_fresh}
use Rattle.mir.specs.declared.config.Settings.{Settings}
use Rattle.mir.specs.Records.{records, record_at, word_at}
use Rattle.mir.specs.Renaming.{regs_to}
use Rattle.mir.proofs.Passing.{ListPasses, list_passes}
use Rattle.passes.specs.Color.{color_to}
use Rattle.passes.specs.Contract.{reduced, count_to}
use Rattle.passes.specs.Machine.{Meaning, State, Point, first, run, step, ended, onward, steps_to, EndsIn, on_words}
use Rattle.passes.specs.Machine.{is_scalar, AllScalar, is_straight, AllStraight, is_covered, AllCovered, Passing, EndsEqual, RunsEqual, KeepsUp, RunsKeepUp, Preserves}
use Rattle.theorems.proofs.Ends.{not_both, runs, over_ended, past_ended, onward_ended, onward_runs, first_end, ends_once, straight_runs}
use Rattle.theorems.proofs.Jumps.{Met, Meets, meets_next}
use Rattle.theorems.proofs.Landing.{kept, place_end, kept_inside}
use Rattle.theorems.proofs.OneRecord.{Same, Running, running_same, from_same}
use Rattle.theorems.proofs.Reduced.{same_kind, reduced_holds}
use Rattle.theorems.proofs.Rows.{kind_at, all_kinds, more_kinds}
use Rattle.theorems.proofs.Steps.{ends_equal}

module _ (s : Settings) (list table : List ℕ) (passes : ListPasses s list table) {Value : Type 0} (m : Meaning Value) (start : State Value) where
  abbrev out : List ℕ
  out = reduced s list table

  abbrev MeetAt : Point Value → Point Value → Type 0
  MeetAt = Meets s list table passes m

  -- ---- before the first step

  meet_first : MeetAt (first start) (first start)
  unfolding color_to regs_to count_to
  meet_first = go start.over refl
    where
      running : start.over ≡ false → Running s list table zero start start
      running h = from_same s list table h h (record { named = λ r l. refl; const = λ k. refl; cells = λ p x q. refl }) refl (λ r t q l. not_fresh r t q)

      go : (b : Bool) → start.over ≡ b → MeetAt (first start) (first start)
      go false h = inl (record { spot = refl; inside = omega arith; agree = inl (running h) })
      go true h =
          inr (record { a_over = h; b_over = h; equal = record { named = λ r p q. refl; mem = λ k. refl; param = λ k. refl; stack = λ k l. refl } })

  -- ---- one step of the list's run

  agree_runs : {p q : Point Value} → Met s list table passes m p q → (p.state.over ≡ false) × (q.state.over ≡ false) × Same s list table p.state q.state
  agree_runs met = ⊎_elim (λ g. (g.a_runs, g.b_runs, running_same s list table g)) (λ g. (g.a_runs, g.b_runs, g.same)) met.agree

  module _ (covered : (i : ℕ) → i < records list → is_covered (word_at (record_at list i) 0) ≡ true) where
    -- the reduced run makes the step too, or waits
    met_next : (p q : Point Value) → Met s list table passes m p q → p.at < records list
        → MeetAt (onward m list p) q ⊎ MeetAt (onward m list p) (onward m out q)
    met_next p q met l =
        let g = agree_runs met in
        let r = meets_next s list table passes m p q met l (covered p.at l) in
        rw (onward_runs m list p (runs list p g.0 l)) (go (kept s list table p.at) refl r)
      where
        go : (b : Bool) → kept s list table p.at ≡ b → MeetAt (step m list p) (cond b (step m out q) q)
            → MeetAt (step m list p) q ⊎ MeetAt (step m list p) (onward m out q)
        go true k r =
            let inside : q.at < records out = rw met.spot (kept_inside s list table p.at l k) in
            inr (rw (onward_runs m out q (runs out q (agree_runs met).1 inside)) r)
        go false k r = inl r

    meet_next : (p q : Point Value) → MeetAt p q → MeetAt (onward m list p) q ⊎ MeetAt (onward m list p) (onward m out q)
    meet_next p q (inr g) = inl (rw (onward_ended m list p (over_ended list p g.a_over)) (inr g))
    meet_next p q (inl g) = go (dec_lt p.at (records list))
      where
        go : Dec (p.at < records list) → MeetAt (onward m list p) q ⊎ MeetAt (onward m list p) (onward m out q)
        go (yes h) = met_next p q g h
        go (no h) = inl (rw (onward_ended m list p (past_ended list p (omega (arith, h)))) (inl g))

    meet_to : (n : ℕ) → (k : ℕ) × (k ≤ n) × MeetAt (steps_to m list start n) (steps_to m out start k)
    unfolding steps_to
    meet_to zero = (0, omega arith, meet_first)
    meet_to (suc n) =
        let up = meet_to n in
        ⊎_elim (λ g. (up.0, omega (arith, up.1), g)) (λ g. (suc up.0, omega (arith, up.1), g)) (meet_next (steps_to m list start n) (steps_to m out start up.0) up.2)

    -- ---- the end

    met_ends : (p q : Point Value) → MeetAt p q → ended list p ≡ true → (ended out q ≡ true) × EndsEqual s p.state q.state
    met_ends p q (inr g) h = (over_ended out q g.b_over, g.equal)
    met_ends p q (inl g) h = go (dec_lt p.at (records list))
      where
        go : Dec (p.at < records list) → (ended out q ≡ true) × EndsEqual s p.state q.state
        go (yes l) = not_both h (runs list p (agree_runs g).0 l)
        go (no l) =
            let e : p.at ≡ records list = omega (arith, l, g.inside) in
            let f : q.at ≡ records out = g.spot ∙ rw e (place_end s list table) in
            (past_ended out q (omega (arith, f)), ends_equal s list table (agree_runs g).2)

    keeps_up_with : (n : ℕ) (z : State Value) → EndsIn m list start n z → KeepsUp s m out start n z
    keeps_up_with n z h =
        let met = meet_to n in
        let e = met_ends (steps_to m list start n) (steps_to m out start met.0) met.2 h.reached in
        let f = first_end m out start met.0 e.0 in
        record {
          steps = f.0;
          at_most = omega (arith, f.1, met.1);
          end = (steps_to m out start met.0).state;
          ends = f.2;
          equal = subst (λ (x : State Value). EndsEqual s x (steps_to m out start met.0).state) h.state e.1;
        }

pub keeps_up : (s : Settings) (list table : List ℕ) → Passing s list table → AllCovered list → {Value : Type 0} (m : Meaning Value) (start : State Value)
    (n : ℕ) (z : State Value) → EndsIn m list start n z → KeepsUp s m (reduced s list table) start n z
unfolding Passing
keeps_up s list table passing covered m start =
    keeps_up_with s list table (list_passes true s list table passing) m start (kind_at list is_covered covered)

-- over words, as section 5 and the requests have it
pub runs_keep_up : (s : Settings) (list table : List ℕ) → Passing s list table → AllCovered list → RunsKeepUp s list (reduced s list table)
runs_keep_up s list table passing covered U B F X Y J = keeps_up s list table passing covered (on_words U B F X Y J)

-- ---- straight kinds

-- the reduced list has them alone where the list does
still_straight : (s : Settings) (list table : List ℕ) → ListPasses s list table → AllStraight list → AllStraight (reduced s list table)
still_straight s list table passes h =
    all_kinds (reduced s list table) is_straight
    (reduced_holds s list table (λ (rec : List ℕ). is_straight (word_at rec 0) ≡ true)
    (λ i l. rw (same_kind s list table passes i l) (kind_at list is_straight h i l)))

straight_covered : (list : List ℕ) → AllStraight list → AllCovered list
straight_covered list = more_kinds list is_straight is_covered (λ k h. rw h)

pub preserved : (s : Settings) (list table : List ℕ) → Passing s list table → AllStraight list → {Value : Type 0} (m : Meaning Value) (start : State Value)
    → EndsEqual s (run m list start) (run m (reduced s list table) start)
unfolding Passing
preserved s list table passing straight m start =
    let out = reduced s list table in
    let a = straight_runs m list start straight in
    let b = straight_runs m out start (still_straight s list table (list_passes true s list table passing) straight) in
    let k = keeps_up s list table passing (straight_covered list straight) m start a.0 (run m list start) a.2 in
    subst (EndsEqual s (run m list start)) (ends_once m out start k.ends b.2) k.equal

-- over words
pub runs_equal : (s : Settings) (list table : List ℕ) → Passing s list table → AllStraight list → RunsEqual s list (reduced s list table)
runs_equal s list table passing straight U B F X Y J = preserved s list table passing straight (on_words U B F X Y J)

-- both, as the promises have it
pub list_preserved : (s : Settings) (list table : List ℕ) → Passing s list table → Preserves s list (reduced s list table)
list_preserved s list table passing =
    record { straight = runs_equal s list table passing; branches = runs_keep_up s list table passing }

-- a list of scalar straight-line kinds, document 01's, is among them
pub scalar_is_straight : (list : List ℕ) → AllScalar list → AllStraight list
scalar_is_straight list = more_kinds list is_scalar is_straight (λ k h. rw h)
