-- What a record that passes its questions is known by, and how the questions that two operations share go together.
-- By the answers' cases; the register questions carry over from fewer registers to more.
use Rattle.std.specs.Prelude.{Option}
use Prim.Native.Nat.{ℕ, zero, suc, ◌%◌, ◌≤◌, ◌<◌}
use mathlib.Core.Bool.{Bool, true, false, cond, ◌&&◌, and-false}
use mathlib.Core.List.{List, [], ◌∷◌, ◌++◌, map}
use mathlib.Core.Path.{◌≡◌, refl, sym, ap, ◌∙◌}
use native.Mathlib.Omega.{arith}
use lib.ListN.{length, get_or, set}
use lib.Dec.{ltb, leb, eqb}
use borrow.Author.Tests.{lt-ltb, ltb-true, leb-true, eqb-true}
use Rattle.mir.specs.declared.config.Settings.{Settings}
use Rattle.mir.specs.Answers.{Verdict, Passed}
use Rattle.mir.specs.Branches.{past_to}
use Rattle.std.specs.List.{list_all}
use Rattle.mir.specs.Folds.{all_below, first_no, refused_at, or_else}
use Rattle.mir.specs.Questions.{few_registers, few_args, well_sized, known_kind, word_fits, words_fit, fields_fit, gen_fits, gens_fit, partner_fits, named, since, sources_named, sources_since}
use Rattle.mir.specs.Questions.{shape_no, record_no, record_by, record_refusal, count_refusal, args_refusal, lengths_refusal, lands, branch_by, branch_refusal, sizes_refusal, start_refusal, list_refusal, refusal}
use Rattle.mir.specs.Records.{is_gen, max_regs, records, record_at}
use Rattle.mir.specs.Renaming.{regs_to}
use Rattle.mir.specs.Shapes.{shape_for, dests, sources, registers}
use Rattle.mir.specs.Inner.{source_passes}
use Rattle.mir.proofs.Folds.{all_append, all_at, both_passed, none_refused, refusal_none}
use Rattle.mir.proofs.Renaming.{registers_are, and_both}

-- ---- numbered answers

-- each answer is yes
abbrev Yes : List (ℕ × Bool) → Type 0
Yes [] = Unit {0}
Yes (q ∷ qs) = (q.1 ≡ true) × Yes qs

-- no question has the number 0
abbrev Numbered : List (ℕ × Bool) → Type 0
Numbered [] = Unit {0}
Numbered ((zero, b) ∷ qs) = ⊥
Numbered ((suc n, b) ∷ qs) = Numbered qs

each_yes : (qs : List (ℕ × Bool)) → Numbered qs → first_no qs ≡ 0 → Yes qs
each_yes [] t e = tt
each_yes ((zero, b) ∷ qs) t e = absurd t
each_yes ((suc n, true) ∷ qs) t e = (refl, each_yes qs t e)
each_yes ((suc n, false) ∷ qs) t e = absurd (omega arith)

-- a no decides, whatever is asked after it
first_stops : (qs rest : List (ℕ × Bool)) → (first_no qs ≡ 0 → ⊥) → first_no qs ≡ first_no (qs ++ rest)
first_stops [] rest h = absurd (h refl)
first_stops ((n, true) ∷ qs) rest h = first_stops qs rest h
first_stops ((n, false) ∷ qs) rest h = refl

-- ---- a record

-- each word of a record that question 6 passes is at most what its shape says
pub word_fits_lem : (table rec : List ℕ) → fields_fit table rec ≡ true → (p : ℕ) → p < 8 → leb (get_or rec p 0) (get_or (shape_for rec).most p 0) ≡ true
unfolding fields_fit words_fit
word_fits_lem table rec h p l = all_at (word_fits rec (shape_for rec).most) 8 p (and_both (all_below 8 (word_fits rec (shape_for rec).most)) _ h).0 l

module _ (table : List ℕ) (count_regs : ℕ) (rec : List ℕ) where
  abbrev shape_asked : List (ℕ × Bool)
  shape_asked = (5, known_kind rec) ∷ (6, fields_fit table rec) ∷ (7, gens_fit count_regs rec) ∷ []

  abbrev last_asked : List (Option ℕ) → ℕ → List (ℕ × Bool)
  last_asked regs past = (8, partner_fits rec) ∷ (9, sources_named regs rec) ∷ (15, sources_since past regs rec) ∷ []

  -- a record that questions 5 to 7 pass
  pub record ShapePasses : Type 0 where
    pub kind : known_kind rec ≡ true
    pub fields : fields_fit table rec ≡ true
    pub gens : gens_fit count_regs rec ≡ true

  pub shape_passes : shape_no table count_regs rec ≡ 0 → ShapePasses
  unfolding shape_no
  shape_passes e =
      let y = each_yes shape_asked tt e in
      record { kind = y.0; fields = y.1.0; gens = y.1.1.0 }

  -- a record that questions 5 to 9 and 15 pass
  pub record Passes (regs : List (Option ℕ)) (past : ℕ) : Type 0 where
    pub shape : ShapePasses
    pub partner : partner_fits rec ≡ true
    pub sources : sources_named regs rec ≡ true
    pub since : sources_since past regs rec ≡ true

  pub record_passes : (regs : List (Option ℕ)) (past : ℕ) → record_no table count_regs regs past rec ≡ 0 → Passes regs past
  unfolding record_no
  record_passes regs past e =
      let y = each_yes (shape_asked ++ last_asked regs past) tt e in
      record {
        shape = record { kind = y.0; fields = y.1.0; gens = y.1.1.0 };
        partner = y.1.1.1.0;
        sources = y.1.1.1.1.0;
        since = y.1.1.1.1.1.0;
      }

  -- a no to questions 5 to 7 is the record's, and after three times yes the last ones decide
  pub shape_stops : (regs : List (Option ℕ)) (past n : ℕ) → n ≡ shape_no table count_regs rec → (n ≡ 0 → ⊥) → n ≡ record_no table count_regs regs past rec
  unfolding shape_no record_no
  shape_stops regs past n e h = e ∙ first_stops shape_asked (last_asked regs past) (λ z. h (e ∙ z))

  pub then_last : (regs : List (Option ℕ)) (past : ℕ) → ShapePasses → record_no table count_regs regs past rec ≡ first_no (last_asked regs past)
  unfolding record_no
  then_last regs past p = rw (p.kind, p.fields, p.gens)

-- what holds of each word, weakened
all_weaker : (p q : ℕ → Bool) → ((w : ℕ) → p w ≡ true → q w ≡ true) → (ws : List ℕ) → list_all p ws ≡ true → list_all q ws ≡ true
all_weaker p q f [] h = refl
all_weaker p q f (w ∷ ws) h =
    let b = and_both (p w) (list_all p ws) h in
    rw (f w b.0, all_weaker p q f ws b.1)

-- both of each word, as each of all words
all_and : (p q : ℕ → Bool) (ws : List ℕ) → list_all (λ w. p w && q w) ws ≡ (list_all p ws && list_all q ws)
all_and p q [] = refl
all_and p q (w ∷ ws) = go (p w) (q w) (all_and p q ws)
  where
    both : Bool
    both = list_all (λ v. p v && q v) ws

    go : (a b : Bool) → both ≡ (list_all p ws && list_all q ws) → ((a && b) && both) ≡ ((a && list_all p ws) && (b && list_all q ws))
    go false b h = refl
    go true true h = h
    go true false h = sym (and-false (list_all p ws))

-- a record passes if the parts that are asked at once say so
pub passes_at_once : (table : List ℕ) (n : ℕ) (regs : List (Option ℕ)) (past : ℕ) (rec : List ℕ)
    → eqb (record_no table n regs past rec) 0
    ≡ (known_kind rec && (fields_fit table rec && (partner_fits rec && (list_all (gen_fits n) (dests rec) && list_all (source_passes n regs past) (sources rec)))))
unfolding record_no gens_fit sources_named sources_since
passes_at_once table n regs past rec =
    let more : ℕ → Bool = λ w. named regs w && since past regs w in
    rw (registers_are, all_append, all_and (gen_fits n) more (sources rec), all_and (named regs) (since past regs) (sources rec))
    (go (known_kind rec) (fields_fit table rec) (partner_fits rec) (list_all (gen_fits n) (dests rec)) (list_all (gen_fits n) (sources rec))
    (list_all (named regs) (sources rec)) (list_all (since past regs) (sources rec)))
  where
    go : (kind fields partner d s nam sin : Bool)
        → eqb (first_no ((5, kind) ∷ (6, fields) ∷ (7, d && s) ∷ (8, partner) ∷ (9, nam) ∷ (15, sin) ∷ [])) 0
        ≡ (kind && (fields && (partner && (d && (s && (nam && sin))))))
    go false fields partner d s nam sin = refl
    go true false partner d s nam sin = refl
    go true true partner false s nam sin = sym (and-false partner)
    go true true partner true false nam sin = sym (and-false partner)
    go true true false true true nam sin = refl
    go true true true true true false sin = refl
    go true true true true true true false = refl
    go true true true true true true true = refl

gen_fits_more : (n m w : ℕ) → n ≤ m → gen_fits n w ≡ true → gen_fits m w ≡ true
gen_fits_more n m w l h = go (is_gen w) h
  where
    go : (b : Bool) → cond b (ltb w n) true ≡ true → cond b (ltb w m) true ≡ true
    go true e = lt-ltb w m (omega (arith, ltb-true w n e))
    go false e = refl

pub gens_fit_more : (n m : ℕ) (rec : List ℕ) → n ≤ m → gens_fit n rec ≡ true → gens_fit m rec ≡ true
unfolding gens_fit
gens_fit_more n m rec l h = all_weaker (gen_fits n) (gen_fits m) (λ w. gen_fits_more n m w l) (registers rec) h

-- an element that is set is set in what the list is mapped to
pub map_set {ℓ ℓ'} : {A : Type ℓ} {B : Type ℓ'} (f : A → B) (l : List A) (i : ℕ) (a : A) → map f (set l i a) ≡ set (map f l) i (f a)
map_set f [] i a = refl
map_set f (x ∷ l) zero a = refl
map_set f (x ∷ l) (suc i) a = ap (λ r. f x ∷ r) (map_set f l i a)

-- question 3 says how long the list and the table can be
pub record Sized (list table : ℕ) : Type 0 where
  pub whole : list % 8 ≡ 0
  pub small : list ≤ 524288
  pub even : table % 2 ≡ 0
  pub few : table ≤ 65536

pub well_sized_lem : (list table : ℕ) → well_sized list table ≡ true → Sized list table
unfolding well_sized
well_sized_lem list table h =
    let a = and_both (eqb (list % 8) 0 && leb list 524288 && eqb (table % 2) 0) (leb table 65536) h in
    let b = and_both (eqb (list % 8) 0 && leb list 524288) (eqb (table % 2) 0) a.0 in
    let c = and_both (eqb (list % 8) 0) (leb list 524288) b.0 in
    record {
      whole = eqb-true _ _ c.0;
      small = leb-true _ _ c.1;
      even = eqb-true _ _ b.1;
      few = leb-true _ _ a.1;
    }

-- ---- a whole list

-- questions 1, 3 and 4 of a list that is surveyed; `list` and `table` are lengths
pub record SizesPass (room : Bool) (count_regs list table : ℕ) : Type 0 where
  pub few : count_regs ≤ max_regs
  pub sized : well_sized list table ≡ true
  pub roomy : room ≡ true

pub sizes_pass : (room : Bool) (count_regs list table : ℕ) → sizes_refusal room count_regs list table ≡ Passed → SizesPass room count_regs list table
unfolding sizes_refusal few_registers
sizes_pass room count_regs list table h =
    let asked : List (ℕ × Bool) = (1, few_registers count_regs) ∷ (3, well_sized list table) ∷ (4, room) ∷ [] in
    let y = each_yes asked tt (none_refused _ 0 h) in
    record { few = leb-true count_regs max_regs y.0; sized = y.1.0; roomy = y.1.1.0 }

-- the questions that come before any record, and those that are put to the records
pub refusal_parts : (room : Bool) (s : Settings) (list table : List ℕ)
    → refusal room s list table ≡ or_else (start_refusal room s (length list) (length table)) (list_refusal s.count_regs list table)
unfolding refusal
refusal_parts room s list table =
    go (few_registers s.count_regs) (few_args s.args) (well_sized (length list) (length table)) room (list_refusal s.count_regs list table)
  where
    go : (a b c d : Bool) (v : Verdict)
        → or_else (refused_at (first_no ((1, a) ∷ (2, b) ∷ (3, c) ∷ (4, d) ∷ [])) 0) v
        ≡ or_else (or_else (refused_at (first_no ((1, a) ∷ [])) 0) (or_else (refused_at (first_no ((2, b) ∷ [])) 0) (refused_at (first_no ((3, c) ∷ (4, d) ∷ [])) 0))) v
    go false b c d v = refl
    go true false c d v = refl
    go true true false d v = refl
    go true true true false v = refl
    go true true true true v = refl

pub sizes_parts : (room : Bool) (count_regs list table : ℕ)
    → sizes_refusal room count_regs list table
    ≡ or_else (count_refusal count_regs) (lengths_refusal room list table)
unfolding sizes_refusal
sizes_parts room count_regs list table = go (few_registers count_regs)
  where
    go : (a : Bool)
        → refused_at (first_no ((1, a) ∷ (3, well_sized list table) ∷ (4, room) ∷ [])) 0
        ≡ or_else (refused_at (first_no ((1, a) ∷ [])) 0) (lengths_refusal room list table)
    go false = refl
    go true = refl

-- questions 1 to 4; `list` and `table` are lengths
pub record StartPasses (room : Bool) (s : Settings) (list table : ℕ) : Type 0 where
  pub few : s.count_regs ≤ max_regs
  pub sized : well_sized list table ≡ true
  pub roomy : room ≡ true

pub start_passes : (room : Bool) (s : Settings) (list table : ℕ) → start_refusal room s list table ≡ Passed → StartPasses room s list table
unfolding few_registers
start_passes room s list table h =
    let a = both_passed (count_refusal s.count_regs) (or_else (args_refusal s.args) (lengths_refusal room list table)) h in
    let b = both_passed (args_refusal s.args) (lengths_refusal room list table) a.1 in
    let y = each_yes ((3, well_sized list table) ∷ (4, room) ∷ []) tt (none_refused _ 0 b.1) in
    record {
      few = leb-true s.count_regs max_regs (each_yes ((1, few_registers s.count_regs) ∷ []) tt (none_refused _ 0 a.0)).0;
      sized = y.0;
      roomy = y.1.0;
    }

-- after them the records decide, and without room no record is asked
pub refusal_after : (room : Bool) (s : Settings) (list table : List ℕ) → start_refusal room s (length list) (length table) ≡ Passed
    → refusal room s list table ≡ list_refusal s.count_regs list table
refusal_after room s list table h = refusal_parts room s list table ∙ ap (λ v. or_else v (list_refusal s.count_regs list table)) h

pub refusal_without : (s : Settings) (list table : List ℕ) → refusal false s list table ≡ start_refusal false s (length list) (length table)
refusal_without s list table =
    refusal_parts false s list table
    ∙ go (few_registers s.count_regs) (few_args s.args) (well_sized (length list) (length table)) (list_refusal s.count_regs list table)
  where
    start : Bool → Bool → Bool → Verdict
    start a b c = or_else (refused_at (first_no ((1, a) ∷ [])) 0) (or_else (refused_at (first_no ((2, b) ∷ [])) 0) (refused_at (first_no ((3, c) ∷ (4, false) ∷ [])) 0))

    go : (a b c : Bool) (v : Verdict) → or_else (start a b c) v ≡ start a b c
    go false b c v = refl
    go true false c v = refl
    go true true false v = refl
    go true true true v = refl

pub record ListPasses (s : Settings) (list table : List ℕ) : Type 0 where
  pub few : s.count_regs ≤ max_regs
  pub args : s.args ≤ 65535
  pub sized : Sized (length list) (length table)
  pub each : (i : ℕ) → i < records list → Passes table s.count_regs (record_at list i) (regs_to list i) (past_to list i)
  pub landing : (i : ℕ) → i < records list → lands list (record_at list i) ≡ true

module _ (room : Bool) (s : Settings) (list table : List ℕ) (h : refusal room s list table ≡ Passed) where
  abbrev asked : List (ℕ × Bool)
  asked = (1, few_registers s.count_regs) ∷ (2, few_args s.args) ∷ (3, well_sized (length list) (length table)) ∷ (4, room) ∷ []

  -- questions 1 to 4 are answered with yes, no record is refused, and every branch has its Label
  passed : (Yes asked) × (record_refusal table s.count_regs list ≡ Passed) × (branch_refusal list ≡ Passed)
  unfolding refusal
  passed =
      let each = record_refusal table s.count_regs list in
      let p = both_passed (refused_at (first_no asked) 0) (or_else each (branch_refusal list)) h in
      let q = both_passed each (branch_refusal list) p.1 in
      (each_yes asked tt (none_refused _ 0 p.0), q.0, q.1)

  pub list_passes : ListPasses s list table
  unfolding record_refusal branch_refusal few_registers few_args
  list_passes =
      let y = passed.0 in
      let n = s.count_regs in
      record {
        few = leb-true n max_regs y.0;
        args = leb-true s.args 65535 y.1.0;
        sized = well_sized_lem (length list) (length table) y.1.1.0;
        each = λ i l. record_passes table n (record_at list i) (regs_to list i) (past_to list i) (refusal_none (record_by table n list) (records list) i passed.1 l);
        landing = λ i l. (each_yes ((16, lands list (record_at list i)) ∷ []) tt (refusal_none (branch_by list) (records list) i passed.2 l)).0;
      }

  pub room_passes : room ≡ true
  room_passes = passed.0.1.1.1.0
