-- One step of two runs that have met, the one of the list and the one of its reduced list: they have met after it, or both are over
-- and ended equal. The reduced run makes the step too if the record is kept, and waits if it is dropped.
-- A record of a straight kind has its law (`step`). To a Label control may come from anywhere, so there only what everybody looks at is
-- the same; a branch leaves that as it is, and past a BranchIf nothing that was written before it is still to be read.
use Rattle.mir.proofs.Renaming.{not_fresh}
use Rattle.std.specs.Prelude.{Some}
use Prim.Native.Nat.{ℕ, suc, ◌≤◌, ◌<◌}
use mathlib.Core.Bool.{Bool, true, false, cond, ◌||◌}
use mathlib.Core.List.{List}
use mathlib.Core.Logic.{◌⊎◌, inl, inr, ⊎_elim}
use mathlib.Core.Path.{◌≡◌, refl, sym, ap, subst, ◌∙◌}
use native.Mathlib.Omega.{arith}
use lib.Dec.{eqb}
use borrow.Author.Tests.{eqb-true}
use Rattle.mir.specs.declared.config.Settings.{Settings}
use Rattle.mir.specs.Branches.{label_at, is_branch, label_of}
use Rattle.mir.specs.Questions.{has_label}
use Rattle.mir.specs.Records.{records, record_at, word_at}
use Rattle.mir.specs.Renaming.{produced, renamed, regs_to}
use Rattle.mir.specs.Shapes.{label, branch, branch_if, row, shape_of, dests, sources}
use Rattle.mir.proofs.Clash.{clash}
use Rattle.mir.proofs.Passing.{ListPasses}
use Rattle.passes.specs.Color.{Setup, setup, color_to, colored, words_for, source_word}
use Rattle.passes.specs.Contract.{outcome_of, outcome_at, out_at, reduced}
use Rattle.passes.specs.Create.{ends_of}
use Rattle.passes.specs.Machine.{Meaning, State, Point, effect, turn, jumps, target, step, is_straight, is_covered}
use Rattle.theorems.proofs.Assign.{static_in, number_in}
use Rattle.theorems.proofs.Create.{names_to}
use Rattle.theorems.proofs.Ends.{straight_goes_on, turn_runs}
use Rattle.theorems.proofs.Landing.{last_holds, label_kind, kept, place, place_next, kept_record, target_same}
use Rattle.theorems.proofs.OneRecord.{Same, Running, running_same, Place, reset_after, source_same}
use Rattle.theorems.proofs.Past.{stale_end}
use Rattle.theorems.proofs.Reduced.{same_kind, same_word}
use Rattle.theorems.proofs.Rows.{record_length, eight}
use Rattle.theorems.proofs.Steps.{Stopped, Agree, or_cases, straight_step}

abbrev point : {Value : Type 0} → ℕ → State Value → Point Value
point i st = record { at = i; state = st }

module _ (s : Settings) (list table : List ℕ) where
  -- the list's run is at a Label
  pub record Landed {Value : Type 0} (i : ℕ) (A B : State Value) : Type 0 where
    pub a_runs : A.over ≡ false
    pub b_runs : B.over ≡ false
    pub same : Same s list table A B
    pub spot : word_at (record_at list i) 0 ≡ label

module _ (s : Settings) (list table : List ℕ) (passes : ListPasses s list table) {Value : Type 0} (m : Meaning Value) where
  abbrev u : Setup
  u = setup s list table

  abbrev stays : ℕ → Bool
  stays = kept s list table

  abbrev to : ℕ → ℕ
  to = place s list table

  -- the run of the list has come to p, and the run of the reduced list to q
  pub record Met (p q : Point Value) : Type 0 where
    pub spot : q.at ≡ to p.at
    pub inside : p.at ≤ records list
    pub agree : Running s list table p.at p.state q.state ⊎ Landed s list table p.at p.state q.state

  abbrev pub Meets : Point Value → Point Value → Type 0
  Meets p q = Met p q ⊎ Stopped s p.state q.state

  -- at the Label that a branch goes to, which question 16 asks for
  land : (name : ℕ) {A B : State Value} → has_label list name ≡ true → A.over ≡ false → B.over ≡ false → Same s list table A B
      → Met (point (target list name) A) (point (target (reduced s list table) name) B)
  unfolding target
  land name has a b same =
      let f = last_holds (label_at list name) (records list) (records list) has in
      record {
        spot = target_same s list table passes name;
        inside = omega (arith, f.0);
        agree = inr (record { a_runs = a; b_runs = b; same = same; spot = label_kind name (record_at list (target list name)) f.1 });
      }

  module _ (i : ℕ) (inside : i < records list) (A B : State Value) where
    abbrev rec : List ℕ
    rec = record_at list i

    abbrev out : List ℕ
    out = out_at u i

    abbrev kind : ℕ
    kind = word_at rec 0

    abbrev here : Place
    here = record { s = s; list = list; table = table; passes = passes; i = i; inside = inside }

    -- the reduced run's next point
    abbrev q_next : Point Value
    q_next = cond (stays i) (step m (reduced s list table) (point (to i) B)) (point (to i) B)

    abbrev Steps : Type 0
    Steps = Meets (step m list (point i A)) q_next

    -- neither run jumps: both are at the next record
    next_met : {A' B' : State Value} (x : ℕ) → x ≡ to (suc i) → Agree s list table (suc i) A' B' → Meets (point (suc i) A') (point x B')
    next_met x e h = ⊎_elim (λ g. inl (record { spot = e; inside = omega arith; agree = inl g })) (λ g. inr g) h

    goes_on : jumps m rec A ≡ false → (stays i ≡ true → jumps m out B ≡ false) → Agree s list table (suc i) (effect m rec A) (cond (stays i) (effect m out B) B) → Steps
    unfolding step
    goes_on ja jb h = rw ja (go (stays i) refl h)
      where
        go : (b : Bool) → stays i ≡ b → Agree s list table (suc i) (effect m rec A) (cond b (effect m out B) B)
            → Meets (point (suc i) (effect m rec A)) (cond b (step m (reduced s list table) (point (to i) B)) (point (to i) B))
        go true k g =
            rw (kept_record s list table i inside k, jb k)
            (next_met (suc (to i)) (sym (place_next s list table i ∙ rw k (omega arith))) g)
        go false k g = next_met (to i) (sym (place_next s list table i ∙ rw k (omega arith))) g

    -- both jump
    jump : (name : ℕ) → has_label list name ≡ true → stays i ≡ true → jumps m rec A ≡ true → jumps m out B ≡ true → label_of rec ≡ name → label_of out ≡ name
        → effect m rec A ≡ A → effect m out B ≡ B → A.over ≡ false → B.over ≡ false → Same s list table A B → Steps
    unfolding step
    jump name has k ja jb na nb ea eb a b same =
        rw (k, kept_record s list table i inside k, ja, jb, na, nb, ea, eb) (inl (land name has a b same))

    -- ---- a record of a straight kind

    straight : is_straight kind ≡ true → Running s list table i A B → Steps
    straight h g =
        goes_on (straight_goes_on m rec A h) (λ k. straight_goes_on m out B (rw (same_kind s list table passes i inside) h))
        (rw (turn_runs m rec A g.a_runs, turn_runs m out B g.b_runs) at turned)
      where
        turned : Agree s list table (suc i) (turn m rec A) (cond (stays i) (turn m out B) B)
        turned =
            let w = word_at rec in
            straight_step m here g (w 1) (w 2) (w 3) (w 4) (w 5) (w 6) (w 7) (w 0) h (eight rec (record_length list i inside))

    -- ---- a Label, a Branch and a BranchIf are stays, and leave the state as it is

    module _ (k : ℕ) (e : kind ≡ k) where
      out_kind : word_at out 0 ≡ k
      out_kind = same_kind s list table passes i inside ∙ e

    label_step : kind ≡ label → A.over ≡ false → B.over ≡ false → Same s list table A B → Steps
    unfolding jumps effect outcome_at outcome_of shape_of dests regs_to renamed
    label_step e a b same =
        let f = out_kind label e in
        goes_on (rw e) (λ k. rw f)
        (inl (rw (e, f) (reset_after here (rw e) (rw e) a b same (λ r t h. absurd (not_fresh r t (rw e at h))))))

    branch_step : kind ≡ branch → Running s list table i A B → Steps
    unfolding jumps is_branch label_of effect outcome_at outcome_of shape_of
    branch_step e g =
        let f = out_kind branch e in
        let word = same_word s list table passes i inside 1 (inr (rw e (omega arith))) in
        jump (word_at rec 1) (rw e at (passes.landing i inside)) (rw f) (rw e) (rw f) (rw e) (rw (f, word)) (rw e) (rw f) g.a_runs g.b_runs
        (running_same s list table g)

    module _ (g : Running s list table i A B) (w1 w2 w3 w4 w5 w6 w7 : ℕ) (is : rec ≡ row branch_if w1 w2 w3 w4 w5 w6 w7) where
      abbrev src : ℕ
      src = source_word (regs_to list i) (color_to u i).colours w1

      if_out : out ≡ row branch_if src w2 w3 w4 w5 w6 w7
      unfolding dests sources shape_of out_at colored words_for
      if_out = rw is

      -- the condition has the same value in both runs
      condition : A.reg w1 ≡ B.reg src
      unfolding sources shape_of
      condition = source_same here g w1 (rw is (inl refl))

      -- nothing that a register holds is still to be read
      unread : (r t : ℕ) → static_in (regs_to list (suc i)) r ≡ Some t → suc i ≤ number_in (ends_of list) t → ⊥
      unfolding regs_to renamed dests shape_of produced
      unread r t h l = omega (arith, stale_end s list table passes i t inside (rw is) ((names_to list i).below r t (rw is at h)))

      if_kept : stays i ≡ true
      unfolding outcome_at outcome_of shape_of
      if_kept = rw if_out

      branch_if_step : Steps
      unfolding jumps is_branch label_of effect shape_of dests
      branch_if_step = go (m.taken (A.reg w1) w3) refl
        where
          go : (b : Bool) → m.taken (A.reg w1) w3 ≡ b → Steps
          go true q =
              jump w2 (rw is at (passes.landing i inside)) if_kept (rw (is, q)) (rw (if_out, ← condition, q)) (rw is) (rw if_out) (rw is) (rw if_out) g.a_runs g.b_runs
              (running_same s list table g)
          go false q =
              goes_on (rw (is, q)) (λ k. rw (if_out, ← condition, q))
              (inl (rw (is, if_out, if_kept) (reset_after here (rw is) (rw is) g.a_runs g.b_runs (running_same s list table g) unread)))

    -- ---- by the kind

    -- a record that is no Label is met running
    running : (kind ≡ label → ⊥) → Running s list table i A B ⊎ Landed s list table i A B → Running s list table i A B
    running h (inl g) = g
    running h (inr g) = absurd (h g.spot)

    one_step : Running s list table i A B ⊎ Landed s list table i A B → is_covered kind ≡ true → Steps
    one_step agree h =
        ⊎_elim
        (λ a. ⊎_elim
        (λ b. ⊎_elim at_straight at_label (or_cases (is_straight kind) (eqb kind label) b))
        at_branch (or_cases (is_straight kind || eqb kind label) (eqb kind branch) a))
        at_branch_if (or_cases (is_straight kind || eqb kind label || eqb kind branch) (eqb kind branch_if) h)
      where
        at_straight : is_straight kind ≡ true → Steps
        at_straight h = straight h (running no_label agree)
          where
            no_label : kind ≡ label → ⊥
            no_label e =
                let f : is_straight label ≡ true = rw e at h in
                clash (cc)

        at_label : eqb kind label ≡ true → Steps
        at_label h =
            let e = eqb-true kind label h in
            ⊎_elim (λ g. label_step e g.a_runs g.b_runs (running_same s list table g)) (λ g. label_step e g.a_runs g.b_runs g.same) agree

        at_branch : eqb kind branch ≡ true → Steps
        at_branch h =
            let e = eqb-true kind branch h in
            branch_step e (running (λ (f : kind ≡ label). omega (arith, e)) agree)

        at_branch_if : eqb kind branch_if ≡ true → Steps
        at_branch_if h =
            let e = eqb-true kind branch_if h in
            let w = word_at rec in
            branch_if_step (running (λ (f : kind ≡ label). omega (arith, e)) agree) (w 1) (w 2) (w 3) (w 4) (w 5) (w 6) (w 7)
            (eight rec (record_length list i inside) ∙ ap (λ (k : ℕ). row k (w 1) (w 2) (w 3) (w 4) (w 5) (w 6) (w 7)) e)

  pub meets_next : (p q : Point Value) → Met p q → p.at < records list → is_covered (word_at (record_at list p.at) 0) ≡ true
      → Meets (step m list p) (cond (stays p.at) (step m (reduced s list table) q) q)
  meets_next p q met inside h =
      subst (λ (x : ℕ). Meets (step m list p) (cond (stays p.at) (step m (reduced s list table) (point x q.state)) (point x q.state))) (sym met.spot)
      (one_step p.at inside p.state q.state met.agree h)
