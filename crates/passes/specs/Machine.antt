-- Public, document 01, section 5: the plain machine for demand 3, with the two-part kinds of document 02's request 1 and the
-- branches of its request 10. It is defined over values of any type; section 5's own has words of 64 bits, and the test of
-- IfElse as request 2 amends it.
use Rattle.std.specs.Prelude.{ℕ, zero, suc, ◌+◌, ◌<◌, ◌≤◌, ◌^◌, Bool, true, false, cond, ◌&&◌, ◌||◌, not, List, [], ◌∷◌, ◌≡◌, leb, eqb, get_or}
use Rattle.mir.specs.declared.config.Settings.{Settings}
use Rattle.mir.specs.Answers.{Verdict, Passed}
use Rattle.mir.specs.Branches.{label_at, label_of}
use Rattle.mir.specs.Folds.{all_below, last_below}
use Rattle.mir.specs.Questions.{refusal}
use Rattle.mir.specs.Records.{records, record_at, word_at, fixed_mark}
use Rattle.mir.specs.Shapes.{label, branch, branch_if}
use Rattle.passes.specs.Color.{PoolsNeverEmpty}

-- arbitrary meanings of the operations: a value of an operation and its operands' values, two for ComplexBi, of x1, y1, x2
-- and y2; of IfElse: a value of the condition's, true_val's and false_val's; and of BranchIf: yes or no, of the condition's
-- value and is_else
pub record Meaning (Value : Type 0) : Type 0 where
  pub uni : ℕ → Value → Value
  pub bi : ℕ → Value → Value → Value
  pub fused : ℕ → Value → Value → Value → Value
  pub complex_x : ℕ → Value → Value → Value → Value → Value
  pub complex_y : ℕ → Value → Value → Value → Value → Value
  pub select : Value → Value → Value → Value
  pub taken : Value → ℕ → Bool

-- registers by their word, cells by space and index, constants by index; a run that has met End is over
pub record State (Value : Type 0) : Type 0 where
  pub reg : ℕ → Value
  pub cell : ℕ → ℕ → Value
  pub const : ℕ → Value
  pub over : Bool

abbrev pub write : {Value : Type 0} → ℕ → Value → State Value → State Value
write w v st = record { reg = λ r. cond (eqb r w) v (st.reg r); cell = st.cell; const = st.const; over = st.over }

abbrev pub store : {Value : Type 0} → ℕ → ℕ → Value → State Value → State Value
store space index v st =
    record {
      reg = st.reg;
      cell = λ p i. cond (eqb p space && eqb i index) v (st.cell p i);
      const = st.const;
      over = st.over;
    }

abbrev pub finish : {Value : Type 0} → State Value → State Value
finish st = record { reg = st.reg; cell = st.cell; const = st.const; over = true }

abbrev pub stay : {Value : Type 0} → State Value → State Value
stay st = st

-- the two-part kinds: both values are those of the state before, and x's is written before y's, to register or cell
abbrev pub write_both : {Value : Type 0} → ℕ → ℕ → Value → Value → State Value → State Value
write_both x y v w st = write y w (write x v st)

abbrev pub store_both : {Value : Type 0} → ℕ → ℕ → Value → Value → State Value → State Value
store_both space index v w st = store space (index + 1) w (store space index v st)

-- what a record does to the state, by its kind; w1 to w7 are its words. Labels and branches do nothing to it, and kinds 10 to
-- 12 have no meaning here
abbrev pub effects : {Value : Type 0} → Meaning Value → (w1 w2 w3 w4 w5 w6 w7 : ℕ) → List (State Value → State Value)
effects m w1 w2 w3 w4 w5 w6 w7 =
    stay  -- 0 Nop
    ∷ finish  -- 1 End
    ∷ (λ st. write w2 (m.uni w1 (st.reg w3)) st)  -- 2 Uni
    ∷ (λ st. write w2 (m.bi w1 (st.reg w3) (st.reg w4)) st)  -- 3 Bi
    ∷ (λ st. write w1 (st.reg w2) st)  -- 4 Mov
    ∷ (λ st. write w1 (st.cell w2 w3) st)  -- 5 Load
    ∷ (λ st. store w2 w3 (st.reg w1) st)  -- 6 Save
    ∷ (λ st. write_both w1 w2 (st.cell w3 w4) (st.cell w3 (w4 + 1)) st)  -- 7 LoadComplex
    ∷ (λ st. store_both w3 w4 (st.reg w1) (st.reg w2) st)  -- 8 SaveComplex
    ∷ (λ st. write w1 (st.const w2) st)  -- 9 LoadConst
    ∷ stay  -- 10 LoadArgs
    ∷ stay  -- 11 SaveArgs
    ∷ stay  -- 12 Call
    ∷ (λ st. write w2 (m.fused w1 (st.reg w3) (st.reg w4) (st.reg w5)) st)  -- 13 Fused
    ∷ (λ st. write w1 (m.select (st.cell w4 w5) (st.reg w2) (st.reg w3)) st)  -- 14 IfElse
    ∷ stay  -- 15 Label
    ∷ stay  -- 16 Branch
    ∷ stay  -- 17 BranchIf
    ∷ (λ st. write w2 (m.bi w1 (st.reg w3) (st.cell w4 w5)) st)  -- 18 LoadMath
    ∷ (λ st. write w2 (m.bi w1 (st.reg w3) (st.const w4)) st)  -- 19 LoadConstMath
    ∷ (λ st.
    write_both w2 w3 (m.complex_x w1 (st.reg w4) (st.reg w5) (st.reg w6) (st.reg w7))
    (m.complex_y w1 (st.reg w4) (st.reg w5) (st.reg w6) (st.reg w7)) st)  -- 20 ComplexBi
    ∷ []

unfoldable pub effect : {Value : Type 0} → Meaning Value → List ℕ → State Value → State Value
effect m rec =
    let w = word_at rec in
    get_or (effects m (w 1) (w 2) (w 3) (w 4) (w 5) (w 6) (w 7)) (w 0) stay

-- records run from the first on, each on the state that the one before it left, until End or the last record
unfoldable pub turn : {Value : Type 0} → Meaning Value → List ℕ → State Value → State Value
turn m rec st = cond st.over st (effect m rec st)

unfoldable pub run_to : {Value : Type 0} → Meaning Value → List ℕ → State Value → ℕ → State Value
run_to m list st zero = st
run_to m list st (suc i) = turn m (record_at list i) (run_to m list st i)

unfoldable pub run : {Value : Type 0} → Meaning Value → List ℕ → State Value → State Value
run m list st = run_to m list st (records list)

-- ---- branches

-- where a run has come to: the record that it runs next, and the state
pub record Point (Value : Type 0) : Type 0 where
  pub at : ℕ
  pub state : State Value

abbrev pub first : {Value : Type 0} → State Value → Point Value
first st = record { at = 0; state = st }

-- the last Label with a number; question 16 sees to it that there is one
unfoldable pub target : List ℕ → ℕ → ℕ
target list name = get_or (last_below (label_at list name) (records list)) 0 (records list)

-- a Branch goes to its Label, and a BranchIf by the condition's value and is_else
unfoldable pub jumps : {Value : Type 0} → Meaning Value → List ℕ → State Value → Bool
jumps m rec st =
    let w = word_at rec in
    eqb (w 0) branch || (eqb (w 0) branch_if && m.taken (st.reg (w 1)) (w 3))

-- one step: the record has its effect, and the run jumps or goes on to the next record
unfoldable pub step : {Value : Type 0} → Meaning Value → List ℕ → Point Value → Point Value
step m list p =
    let rec = record_at list p.at in
    record {
      at = cond (jumps m rec p.state) (target list (label_of rec)) (suc p.at);
      state = effect m rec p.state;
    }

-- a run is at its end past End or past the last record, and stays there
unfoldable pub ended : {Value : Type 0} → List ℕ → Point Value → Bool
ended list p = p.state.over || leb (records list) p.at

unfoldable pub onward : {Value : Type 0} → Meaning Value → List ℕ → Point Value → Point Value
onward m list p = cond (ended list p) p (step m list p)

-- after n steps
unfoldable pub steps_to : {Value : Type 0} → Meaning Value → List ℕ → State Value → ℕ → Point Value
steps_to m list st zero = first st
steps_to m list st (suc n) = onward m list (steps_to m list st n)

-- the run of a list from a state reaches its end in n steps, and not in fewer; there it is in state z
pub record EndsIn {Value : Type 0} (m : Meaning Value) (list : List ℕ) (start : State Value) (n : ℕ) (z : State Value) : Type 0 where
  pub reached : ended list (steps_to m list start n) ≡ true
  pub not_before : (k : ℕ) → k < n → ended list (steps_to m list start k) ≡ false
  pub state : (steps_to m list start n).state ≡ z

-- ---- section 5's machine

-- a word of 64 bits
abbrev pub word_limit : ℕ
word_limit = 2 ^ 64

pub record Word : Type 0 where
  pub number : ℕ
  pub fits : number < word_limit

-- the test of IfElse, as request 2 has it: a condition's word picks false_val if it is 0 or minus zero, which is
-- 8000000000000000 in hex, else true_val
abbrev pub is_true : Word → Bool
is_true w = not (eqb w.number 0 || eqb w.number 0x8000000000000000)

-- with words for values, any U, B and F, any X and Y for ComplexBi's two words, that test, and any yes or no J of a BranchIf
abbrev pub on_words : (ℕ → Word → Word) → (ℕ → Word → Word → Word) → (ℕ → Word → Word → Word → Word)
    → (X Y : ℕ → Word → Word → Word → Word → Word) → (Word → ℕ → Bool) → Meaning Word
on_words U B F X Y J =
    record {
      uni = U;
      bi = B;
      fused = F;
      complex_x = X;
      complex_y = Y;
      select = λ c a b. cond (is_true c) a b;
      taken = J;
    }

-- ---- the claim's terms

-- scalar straight-line kinds: 0 to 6, 9, 13, 14, 18, 19
abbrev pub is_scalar : ℕ → Bool
is_scalar kind = leb kind 6 || eqb kind 9 || eqb kind 13 || eqb kind 14 || eqb kind 18 || eqb kind 19

-- every record of a list is of one of some kinds
unfoldable pub AllKinds : (ℕ → Bool) → List ℕ → Type 0
AllKinds is_one list = all_below (records list) (λ i. is_one (word_at (record_at list i) 0)) ≡ true

abbrev pub AllScalar : List ℕ → Type 0
AllScalar = AllKinds is_scalar

-- straight kinds, those that demand 3 covers: the scalar ones, and with request 1 also 7, 8 and 20
abbrev pub is_straight : ℕ → Bool
is_straight kind = is_scalar kind || eqb kind 7 || eqb kind 8 || eqb kind 20

abbrev pub AllStraight : List ℕ → Type 0
AllStraight = AllKinds is_straight

-- the kinds that request 10 covers, all but 10 to 12: the straight ones, Label, Branch and BranchIf
abbrev pub is_covered : ℕ → Bool
is_covered kind = is_straight kind || eqb kind label || eqb kind branch || eqb kind branch_if

abbrev pub AllCovered : List ℕ → Type 0
AllCovered = AllKinds is_covered

-- the list passes section 7, with these settings and this table and with buffers that are long enough
unfoldable pub Passing : Settings → List ℕ → List ℕ → Type 0
Passing s list table = refusal true s list table ≡ Passed

-- two runs end equal: the named registers, all Mem and Param cells, and the Stack cells below the fixed mark
pub record EndsEqual {Value : Type 0} (s : Settings) (a b : State Value) : Type 0 where
  pub named : (r : ℕ) → 256 ≤ r → r ≤ 259 → a.reg r ≡ b.reg r
  pub mem : (i : ℕ) → a.cell 1 i ≡ b.cell 1 i
  pub param : (i : ℕ) → a.cell 2 i ≡ b.cell 2 i
  pub stack : (i : ℕ) → i < fixed_mark s → a.cell 0 i ≡ b.cell 0 i

-- demand 3 of two lists without branches: on section 5's machine, for every U, B, F, X and Y and from every state, their runs
-- end equal. J plays no part in them
abbrev pub RunsEqual : Settings → (a b : List ℕ) → Type 0
RunsEqual s a b =
    (U : ℕ → Word → Word) (B : ℕ → Word → Word → Word) (F : ℕ → Word → Word → Word → Word)
    (X Y : ℕ → Word → Word → Word → Word → Word) (J : Word → ℕ → Bool) (start : State Word)
    → EndsEqual s (run (on_words U B F X Y J) a start) (run (on_words U B F X Y J) b start)

-- the run of list b keeps up with a run of list a that has ended in n steps, in state z: it ends in at most n, and they end equal
pub record KeepsUp {Value : Type 0} (s : Settings) (m : Meaning Value) (b : List ℕ) (start : State Value) (n : ℕ) (z : State Value) : Type 0 where
  pub steps : ℕ
  pub at_most : steps ≤ n
  pub end : State Value
  pub ends : EndsIn m b start steps end
  pub equal : EndsEqual s z end

-- demand 3 of two lists with branches: wherever a run of a reaches its end, the run of b from the same state keeps up with it
abbrev pub RunsKeepUp : Settings → (a b : List ℕ) → Type 0
RunsKeepUp s a b =
    (U : ℕ → Word → Word) (B : ℕ → Word → Word → Word) (F : ℕ → Word → Word → Word → Word)
    (X Y : ℕ → Word → Word → Word → Word → Word) (J : Word → ℕ → Bool) (start : State Word) (n : ℕ) (z : State Word)
    → EndsIn (on_words U B F X Y J) a start n z → KeepsUp s (on_words U B F X Y J) b start n z

-- the runs of list a and of what it is reduced to, list b
pub record Preserves (s : Settings) (a b : List ℕ) : Type 0 where
  pub straight : AllStraight a → RunsEqual s a b
  pub branches : AllCovered a → RunsKeepUp s a b

-- what an operation promises by its verdict, of list a with its table and of what it is reduced to, list b: where it accepts the list,
-- that no choice finds its pool empty, whatever kinds the list has, and the runs of the two
pub record Keeps (v : Verdict) (s : Settings) (a table b : List ℕ) : Type 0 where
  pub pools : v ≡ Passed → PoolsNeverEmpty s a table
  pub runs : v ≡ Passed → Preserves s a b
