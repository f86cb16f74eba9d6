-- Public: the plain machine on small lists, at least one for each kind that it runs, with the words that it must leave; what a word is,
-- and which words are true; which lists are scalar and which straight; which differences `EndsEqual` tells, and which not; and lists
-- that `RunsEqual` tells apart. Each place starts with a word of its own, and an operation's word shows its operands in order.
use Rattle.std.specs.Prelude.{◌≡◌, ℕ, ◌+◌, ◌-◌, ◌*◌, ◌%◌, ◌<◌, ◌≤◌, Bool, true, false, cond, not, List, [], ◌∷◌, map, eqb, ltb, refl}
use native.Mathlib.Nat.{mod-lt}
use Rattle.std.proofs.lemmas.Bool.{ltb-true}
use Rattle.mir.specs.declared.config.Settings.{Settings}
use Rattle.mir.specs.Records.{flat, fixed_mark}
use Rattle.passes.specs.Instructions.{stack, mem, param, ret, temp, left, right, load_const, load, save, mov, label, nop, end, uni, bi, fused}
use Rattle.passes.specs.Instructions.{if_else, load_complex, save_complex, complex_bi, load_math, load_const_math}
use Rattle.passes.specs.Machine.{Meaning, State, write, store, run, word_limit, Word, on_words}
use Rattle.passes.specs.Machine.{is_scalar, AllScalar, is_straight, AllStraight, EndsEqual, RunsEqual}

-- ---- words

-- a word's number is below 2^64, and every such number is a word's
pub record WordCases : Type 0 where
  pub below : (w : Word) → w.number < 18446744073709551616
  pub each : (n : ℕ) → n < 18446744073709551616 → (w : Word) × (w.number ≡ n)

unfoldable pub word_of : (n : ℕ) → n < word_limit → Word
word_of n h = record { number = n; fits = h }

-- ---- lists

unfoldable pub word : ℕ → Word
word n = word_of (n % word_limit) (mod-lt n (ltb-true 0 word_limit refl))

-- Gen registers 10, 11 .., the named ones 20 to 23; Stack 30, 31 .., Mem 40, 41 .., Param 0, 2^32 ..; constants 60, 61 ..
unfoldable pub start : Bool → State Word
start over =
    record {
      reg = λ r. word (cond (ltb r 256) (10 + r) (r - 236));
      cell = λ p i. word (cond (eqb p param) (i * 4294967296) (30 + 10 * p + i));
      const = λ k. word (60 + k);
      over = over;
    }

-- the operation and its operands, as one number
unfoldable pub digits1 : ℕ → Word → Word
digits1 op a = word (op * 100 + a.number)

unfoldable pub digits2 : ℕ → Word → Word → Word
digits2 op a b = word (op * 10000 + a.number * 100 + b.number)

unfoldable pub digits3 : ℕ → Word → Word → Word → Word
digits3 op a b c = word (op * 1000000 + a.number * 10000 + b.number * 100 + c.number)

-- ComplexBi's two words: the second has a digit more
unfoldable pub digits4 : ℕ → Word → Word → Word → Word → Word
digits4 op a b c d = word (op * 100000000 + a.number * 1000000 + b.number * 10000 + c.number * 100 + d.number)

unfoldable pub digits5 : ℕ → Word → Word → Word → Word → Word
digits5 op a b c d = word (10000000000 + (digits4 op a b c d).number)

-- a BranchIf is taken where the condition's word is below 100, and with is_else where it is not
unfoldable pub below : Word → ℕ → Bool
below c e = cond (eqb e 0) (ltb c.number 100) (not (ltb c.number 100))

abbrev pub digits : Meaning Word
digits = on_words digits1 digits2 digits3 digits4 digits5 below

-- the words at three Gen registers, the named ones, and two cells of each space
pub record Words : Type 0 where
  pub gens : List ℕ
  pub named : List ℕ
  pub stacks : List ℕ
  pub mems : List ℕ
  pub params : List ℕ

abbrev pub words : List ℕ → List ℕ → List ℕ → List ℕ → List ℕ → Words
words gens named stacks mems params =
    record { gens = gens; named = named; stacks = stacks; mems = mems; params = params }

unfoldable pub seen : State Word → Words
seen st =
    words (reg 0 ∷ reg 1 ∷ reg 2 ∷ []) (reg ret ∷ reg temp ∷ reg left ∷ reg right ∷ []) (cell stack 0 ∷ cell stack 1 ∷ [])
    (cell mem 0 ∷ cell mem 1 ∷ []) (cell param 0 ∷ cell param 1 ∷ [])
  where
    reg : ℕ → ℕ
    reg r = (st.reg r).number

    cell : ℕ → ℕ → ℕ
    cell p i = (st.cell p i).number

unfoldable pub after : List (List ℕ) → Words
after recs = seen (run digits (flat recs) (start false))

-- what an IfElse by this word leaves: 11, true_val's word, or 12, false_val's, in Gen register 0
unfoldable pub picked : ℕ → Words
picked c = seen (run digits (flat (if_else 0 1 2 mem 7 ∷ [])) (store mem 7 (word c) (start false)))

-- what an IfElse over numbers gives where it gives its three values, as digits
unfoldable pub shown : ℕ
shown = (run all_three (flat (if_else 0 1 2 mem 7 ∷ [])) numbers).reg 0
  where
    all_three : Meaning ℕ
    all_three =
        record {
          uni = λ op a. a;
          bi = λ op a b. a;
          fused = λ op a b c. a;
          complex_x = λ op a b c d. a;
          complex_y = λ op a b c d. a;
          select = λ c a b. c * 100 + a * 10 + b;
          taken = λ c e. true;
        }

    numbers : State ℕ
    numbers = record { reg = λ r. r; cell = λ p i. i; const = λ k. k; over = false }

-- what the machine starts with, and what a list leaves of it
abbrev pub untouched : Words
untouched = words (10 ∷ 11 ∷ 12 ∷ []) (20 ∷ 21 ∷ 22 ∷ 23 ∷ []) (30 ∷ 31 ∷ []) (40 ∷ 41 ∷ []) (0 ∷ 4294967296 ∷ [])

abbrev pub gens : ℕ → ℕ → ℕ → Words
gens a b c = words (a ∷ b ∷ c ∷ []) (20 ∷ 21 ∷ 22 ∷ 23 ∷ []) (30 ∷ 31 ∷ []) (40 ∷ 41 ∷ []) (0 ∷ 4294967296 ∷ [])

abbrev pub named : ℕ → ℕ → ℕ → ℕ → Words
named a b c d = words (10 ∷ 11 ∷ 12 ∷ []) (a ∷ b ∷ c ∷ d ∷ []) (30 ∷ 31 ∷ []) (40 ∷ 41 ∷ []) (0 ∷ 4294967296 ∷ [])

pub record MachineCases : Type 0 where
  pub no_record : after [] ≡ untouched
  pub of_nop : after (nop ∷ []) ≡ untouched
  -- End stops the run: what comes after it does nothing
  pub of_end : after (mov ret 0 ∷ end ∷ mov temp 0 ∷ save 0 mem 0 ∷ nop ∷ []) ≡ named 10 21 22 23
  pub ended : seen (run digits (flat (mov ret 0 ∷ save 0 mem 0 ∷ [])) (start true)) ≡ untouched
  pub of_uni : after (uni 19 2 1 ∷ []) ≡ gens 10 11 1911
  pub of_bi : after (bi 14 0 1 2 ∷ []) ≡ gens 141112 11 12
  pub of_mov : after (mov 1 0 ∷ []) ≡ gens 10 10 12
  -- each named register is read and written
  pub named_written : after (mov ret 0 ∷ mov temp 1 ∷ mov left 2 ∷ mov right left ∷ []) ≡ named 10 11 12 12
  pub named_read : after (mov 0 ret ∷ mov 1 temp ∷ bi 1 2 left right ∷ []) ≡ gens 20 21 12223
  pub of_load : after (load 0 stack 1 ∷ load 1 mem 1 ∷ load 2 param 1 ∷ []) ≡ gens 31 41 4294967296
  pub of_save :
      after (save 0 stack 1 ∷ save 1 mem 0 ∷ save left param 1 ∷ [])
      ≡ words (10 ∷ 11 ∷ 12 ∷ []) (20 ∷ 21 ∷ 22 ∷ 23 ∷ []) (30 ∷ 10 ∷ []) (11 ∷ 41 ∷ []) (0 ∷ 22 ∷ [])
  -- a constant's word above 2^32
  pub of_load_const : after (load_const 2 1 ∷ load_const ret 4294967295 ∷ []) ≡ words (10 ∷ 11 ∷ 61 ∷ []) (4294967355 ∷ 21 ∷ 22 ∷ 23 ∷ [])
      (30 ∷ 31 ∷ []) (40 ∷ 41 ∷ []) (0 ∷ 4294967296 ∷ [])
  pub of_fused : after (fused 3 1 0 1 2 ∷ []) ≡ gens 10 3101112 12
  -- 0 and minus zero are false; 1, a word whose low half is 0, the words beside minus zero, and the largest are true
  pub if_zero : picked 0 ≡ gens 12 11 12
  pub if_minus_zero : picked 0x8000000000000000 ≡ gens 12 11 12
  pub if_one : picked 1 ≡ gens 11 11 12
  pub if_high : picked 0x100000000 ≡ gens 11 11 12
  pub if_below_minus_zero : picked 0x7fffffffffffffff ≡ gens 11 11 12
  pub if_above_minus_zero : picked 0x8000000000000001 ≡ gens 11 11 12
  pub if_largest : picked 0xffffffffffffffff ≡ gens 11 11 12
  -- the condition's cell may be of any space
  pub if_stack : after (if_else 0 1 2 stack 0 ∷ []) ≡ gens 11 11 12
  pub if_param : after (if_else 0 1 2 param 0 ∷ []) ≡ gens 12 11 12
  -- a meaning's select takes condition, true_val and false_val
  pub of_select : shown ≡ 712
  pub of_load_math : after (load_math 3 0 1 mem 1 ∷ []) ≡ gens 31141 11 12
  pub of_load_const_math : after (load_const_math 2 0 1 3 ∷ []) ≡ gens 21163 11 12
  -- a two-part load, from each space; into one register, where y's word stays
  pub of_load_complex : after (load_complex 0 1 stack 0 ∷ load_complex 2 2 mem 0 ∷ load_complex left right param 0 ∷ [])
      ≡ words (30 ∷ 31 ∷ 41 ∷ []) (20 ∷ 21 ∷ 0 ∷ 4294967296 ∷ []) (30 ∷ 31 ∷ []) (40 ∷ 41 ∷ []) (0 ∷ 4294967296 ∷ [])
  pub of_save_complex : after (save_complex 1 0 stack 0 ∷ save_complex 2 2 mem 0 ∷ save_complex left ret param 0 ∷ [])
      ≡ words (10 ∷ 11 ∷ 12 ∷ []) (20 ∷ 21 ∷ 22 ∷ 23 ∷ []) (11 ∷ 10 ∷ []) (12 ∷ 12 ∷ []) (22 ∷ 20 ∷ [])
  -- both words are of the state before, also where x is a source; y's stays in one register
  pub of_complex_bi : after (complex_bi 3 1 0 0 1 2 ret ∷ []) ≡ gens 10310111220 310111220 12
  pub complex_bi_named : after (complex_bi 0 ret temp left right temp ret ∷ []) ≡ named 22232120 10022232120 22 23
  pub complex_bi_one : after (complex_bi 2 1 1 0 0 2 1 ∷ []) ≡ gens 10 10210101211 12
  -- each record runs on the state that the one before it left, and reads before it writes
  pub in_order : after (uni 1 0 0 ∷ uni 2 0 0 ∷ save 0 mem 1 ∷ mov 1 2 ∷ load 2 mem 1 ∷ [])
      ≡ words (310 ∷ 12 ∷ 310 ∷ []) (20 ∷ 21 ∷ 22 ∷ 23 ∷ []) (30 ∷ 31 ∷ []) (40 ∷ 310 ∷ []) (0 ∷ 4294967296 ∷ [])

-- ---- which lists are scalar, and which straight

abbrev pub kinds : List ℕ
kinds = 0 ∷ 1 ∷ 2 ∷ 3 ∷ 4 ∷ 5 ∷ 6 ∷ 7 ∷ 8 ∷ 9 ∷ 10 ∷ 11 ∷ 12 ∷ 13 ∷ 14 ∷ 15 ∷ 16 ∷ 17 ∷ 18 ∷ 19 ∷ 20 ∷ 21 ∷ []

pub record ScalarCases : Type 0 where
  pub of_kinds :
      map is_scalar kinds
      ≡ true ∷ true ∷ true ∷ true ∷ true ∷ true ∷ true ∷ false ∷ false ∷ true ∷ false ∷ false ∷ false ∷ true ∷ true ∷ false ∷ false
      ∷ false ∷ true ∷ true ∷ false ∷ false ∷ []
  pub every : AllScalar (flat (nop ∷ save 0 mem 0 ∷ load_const_math 0 0 0 0 ∷ end ∷ []))
  pub not_every : AllScalar (flat (nop ∷ label 7 ∷ end ∷ [])) → ⊥

pub record StraightCases : Type 0 where
  pub of_kinds :
      map is_straight kinds
      ≡ true ∷ true ∷ true ∷ true ∷ true ∷ true ∷ true ∷ true ∷ true ∷ true ∷ false ∷ false ∷ false ∷ true ∷ true ∷ false ∷ false
      ∷ false ∷ true ∷ true ∷ true ∷ false ∷ []
  pub every : AllStraight (flat (load_complex 0 1 mem 0 ∷ nop ∷ complex_bi 0 0 1 0 1 0 1 ∷ save_complex 0 1 mem 0 ∷ []))
  pub not_every : AllStraight (flat (nop ∷ load_complex 0 1 mem 0 ∷ label 7 ∷ [])) → ⊥

-- ---- what is equal at the end

-- two states that differ in one place alone, which has another value v in the first: in a named register, and in each cell that is
-- looked at, they are told apart; in a Gen register, and in a Stack cell at or above the mark, they may differ
pub record EndsTold (Value : Type 0) : Type 0 where
  pub named : (s : Settings) (st : State Value) (v : Value) (r : ℕ) → 256 ≤ r → r ≤ 259 → (v ≡ st.reg r → ⊥) → EndsEqual s (write r v st) st → ⊥
  pub mem : (s : Settings) (st : State Value) (v : Value) (i : ℕ) → (v ≡ st.cell 1 i → ⊥) → EndsEqual s (store 1 i v st) st → ⊥
  pub param : (s : Settings) (st : State Value) (v : Value) (i : ℕ) → (v ≡ st.cell 2 i → ⊥) → EndsEqual s (store 2 i v st) st → ⊥
  pub stack : (s : Settings) (st : State Value) (v : Value) (i : ℕ) → i < fixed_mark s → (v ≡ st.cell 0 i → ⊥) → EndsEqual s (store 0 i v st) st → ⊥
  pub gen : (s : Settings) (st : State Value) (v : Value) (r : ℕ) → r < 256 → EndsEqual s (write r v st) st
  pub beyond : (s : Settings) (st : State Value) (v : Value) (i : ℕ) → fixed_mark s ≤ i → EndsEqual s (store 0 i v st) st

-- ---- lists that are told apart

-- Ret's number after a list
unfoldable pub returned : List (List ℕ) → ℕ
returned recs = ((run digits (flat recs) (start false)).reg ret).number

-- the two lists differ in U, B, F, X or Y of their operands, in the state that they start from, or in what a condition picks
pub record ListsTold (s : Settings) : Type 0 where
  pub by_uni : RunsEqual s (flat (uni 1 ret 0 ∷ [])) (flat (uni 2 ret 0 ∷ [])) → ⊥
  pub by_bi : RunsEqual s (flat (bi 1 ret 0 0 ∷ [])) (flat (bi 2 ret 0 0 ∷ [])) → ⊥
  pub by_fused : RunsEqual s (flat (fused 1 ret 0 0 0 ∷ [])) (flat (fused 2 ret 0 0 0 ∷ [])) → ⊥
  pub by_complex_x : RunsEqual s (flat (complex_bi 1 ret temp 0 0 0 0 ∷ [])) (flat (complex_bi 2 ret temp 0 0 0 0 ∷ [])) → ⊥
  pub by_complex_y : RunsEqual s (flat (complex_bi 1 temp ret 0 0 0 0 ∷ [])) (flat (complex_bi 2 temp ret 0 0 0 0 ∷ [])) → ⊥
  pub by_start : RunsEqual s (flat (mov ret 0 ∷ [])) [] → ⊥
  pub by_condition : RunsEqual s (flat (if_else ret 1 2 mem 0 ∷ [])) (flat (mov ret 2 ∷ [])) → ⊥

abbrev pub ListsAreTold : Type 0
ListsAreTold = (s : Settings) → ListsTold s
