-- Public: fifteen lists, with what the original, amended in the two rules on two-part loads and saves, makes of each: the reduced list,
-- the drops, the statics, and the read set's members, in the order of joining, since the original has none. The right sides are
-- printed by the importer, from what the amended copy of the original leaves.
use Rattle.std.specs.Prelude.{◌≡◌, ℕ, Bool, true, false, List, [], ◌∷◌, map, zip}
use Rattle.mir.specs.declared.config.Settings.{Settings}
use Rattle.mir.specs.Answers.{Report, answered, unless}
use Rattle.mir.specs.Questions.{refusal}
use Rattle.mir.specs.Records.{flat, records}
use Rattle.passes.specs.declared.alloc.Outcome.{Outcome}
use Rattle.passes.specs.declared.alloc.Outcome.TheVariants.{Nop, Load, Move, Save}
use Rattle.passes.specs.declared.symbol.Loc.{Loc}
use Rattle.passes.specs.Color.{Coloring, setup, color_to}
use Rattle.passes.specs.Contract.{reduced, count_of}
use Rattle.passes.specs.Create.{ends_of}
use Rattle.passes.specs.Instructions.{stack, mem, param, ret, temp, left, right, load_const, load, save, mov, label, nop, end, uni, bi}
use Rattle.passes.specs.Instructions.{load_complex, save_complex, load_args, save_args, call, fused, if_else, branch, branch_if, load_math, load_const_math, complex_bi}

-- a list with its settings and its table
pub record Input : Type 0 where
  pub settings : Settings
  pub table : List ℕ
  pub list : List ℕ

-- the settings in section 1's order, the table, the records
abbrev pub input : ℕ → ℕ → Bool → Bool → Bool → List ℕ → List (List ℕ) → Input
input n args complex arm compress table recs =
    record {
      settings = record { count_regs = n; args = args; complex = complex; arm = arm; compress = compress };
      table = table;
      list = flat recs;
    }

-- the reduced list, or the refusal
unfoldable pub of : Input → Report
of it = unless (refusal true it.settings it.list it.table) (reduced it.settings it.list it.table)

-- the dropped nops, loads, moves and saves; each static's colour and end; each member's space and index, in joining order
pub record Account : Type 0 where
  pub nops : ℕ
  pub loads : ℕ
  pub moves : ℕ
  pub saves : ℕ
  pub statics : List (ℕ × ℕ)
  pub members : List (ℕ × ℕ)

abbrev pub counts : ℕ → ℕ → ℕ → ℕ → List (ℕ × ℕ) → List (ℕ × ℕ) → Account
counts nops loads moves saves statics members =
    record { nops = nops; loads = loads; moves = moves; saves = saves; statics = statics; members = members }

unfoldable pub account : Input → Account
account it =
    counts (dropped Nop) (dropped Load) (dropped Move) (dropped Save) (zip after.colours (ends_of it.list))
    (map (λ (l : Loc). (l.space, l.index)) after.members)
  where
    dropped : Outcome → ℕ
    dropped f = count_of f it.settings it.list it.table

    after : Coloring
    after = color_to (setup it.settings it.list it.table) (records it.list)

-- ---- the lists

-- a named register stays as it is, holds nothing and is never found; its Save clears all the same
unfoldable pub named_registers : Input
named_registers =
    input 2 0 false true false []
    (load ret mem 0 ∷ load 0 mem 0 ∷ load ret mem 0 ∷ mov left 0 ∷ mov right right ∷ bi 14 temp left 0
    ∷ save temp mem 0 ∷ load 1 mem 0 ∷ uni 19 ret 1 ∷ mov 0 right ∷ [])

-- a Mov to another colour; to the source's own, found there though not free; to it by life alone; to a lower one
unfoldable pub moves : Input
moves =
    input 3 0 false false false []
    (load_const 0 7 ∷ mov 1 0 ∷ save 0 mem 0 ∷ mov 2 0 ∷ nop ∷ fused 1 0 0 1 2 ∷ mov 0 0 ∷ save ret mem 0 ∷ mov 1 0
    ∷ save 1 param 0 ∷ [])

-- a free colour without a location comes before a lower one with; without such, the first free one loses its own
unfoldable pub first_free : Input
first_free =
    input 3 0 false false false []
    (load 0 mem 0 ∷ load 1 mem 1 ∷ bi 3 2 0 1 ∷ load_const 0 1 ∷ load 1 mem 1 ∷ load 1 mem 0 ∷ fused 3 0 0 1 2
    ∷ save 0 param 0 ∷ load 1 mem 1 ∷ save 1 mem 2 ∷ [])

-- a Save clears an older holder; a static that is found shortens no life; another space is another location
unfoldable pub older_holder : Input
older_holder =
    input 3 0 false false false []
    (load 0 mem 0 ∷ load_const 1 5 ∷ load 2 param 1 ∷ save 1 mem 0 ∷ load 2 mem 0 ∷ load 2 param 0 ∷ fused 2 0 0 1 2
    ∷ save left mem 0 ∷ load 1 mem 0 ∷ bi 0 ret 0 1 ∷ [])

-- IfElse, LoadMath and LoadArgs keep the Saves to what they read, but not to a pair that none names; the mark is 19
unfoldable pub read_by_others : Input
read_by_others =
    input 2 3 false false true (stack ∷ 19 ∷ mem ∷ 0 ∷ stack ∷ 21 ∷ stack ∷ 19 ∷ [])
    (load_const 0 1 ∷ save 0 stack 22 ∷ save 0 stack 21 ∷ save 0 stack 19 ∷ save 0 stack 18 ∷ save 0 stack 20
    ∷ if_else 1 0 0 stack 22 ∷ load_math 2 1 1 stack 20 ∷ load_args 1 2 1 0 ∷ load_const_math 3 ret 1 4294967295 ∷ [])

-- a dropped Load reads nothing, so the Save goes too; one that is put out keeps every Save, also a later one
unfoldable pub dropped_loads : Input
dropped_loads =
    input 2 0 false false false []
    (load_const 0 1 ∷ save 0 stack 16 ∷ load 1 stack 16 ∷ save 1 stack 17 ∷ save 0 stack 18 ∷ load 1 stack 17
    ∷ load 0 stack 18 ∷ save 0 stack 4294967295 ∷ save 1 stack 17 ∷ bi 0 ret 0 1 ∷ [])

-- SaveComplex stays below the mark of 22, with both halves read, with y's alone; it goes where its LoadComplex does
unfoldable pub complex_mark : Input
complex_mark =
    input 3 3 true false false []
    (load_complex 0 1 mem 0 ∷ save_complex 0 1 stack 21 ∷ save_complex 1 0 stack 24 ∷ save_complex 0 1 stack 26
    ∷ save_complex 0 1 stack 22 ∷ load_complex 0 2 stack 22 ∷ load_complex 1 2 stack 24 ∷ load 1 stack 27
    ∷ fused 0 ret 0 1 2 ∷ [])

-- LoadComplex stays if x is found and y isn't, or if either is named; SaveComplex clears both halves
unfoldable pub complex_loads : Input
complex_loads =
    input 4 0 false false false []
    (load_complex 0 1 mem 4 ∷ save ret mem 5 ∷ load_complex 2 3 mem 4 ∷ complex_bi 0 0 1 2 3 2 1
    ∷ load_complex left 2 mem 4 ∷ load_complex 3 right mem 4 ∷ save_complex 0 temp mem 4 ∷ load_complex 1 0 mem 4
    ∷ save_complex ret 0 param 4294967294 ∷ load 2 param 4294967295 ∷ [])

-- x and y the same register: two statics, of which y's is read; two locations, of which y's is held
unfoldable pub same_register : Input
same_register =
    input 2 0 false false false []
    (load_complex 0 0 mem 0 ∷ load_complex 1 1 param 0 ∷ complex_bi 3 0 0 0 0 1 1 ∷ save_complex 0 0 stack 16
    ∷ load 1 stack 17 ∷ load 1 stack 16 ∷ save_complex 1 1 mem 7 ∷ load 0 mem 8 ∷ load 0 mem 7 ∷ [])

-- Label and Call forget registers and locations; End is a record like any other
unfoldable pub label_and_call : Input
label_and_call =
    input 2 0 false false false []
    (load 0 mem 0 ∷ load 1 mem 1 ∷ end ∷ label 7 ∷ load 1 mem 1 ∷ call 7 4294967295 ∷ load 1 mem 1 ∷ save_args 255 1 0
    ∷ uni 1 0 1 ∷ save 0 mem 0 ∷ [])

-- Branch and BranchIf forget lives and locations; past a Branch a colour may be overwritten before it is read
unfoldable pub branches : Input
branches =
    input 3 0 false false false []
    (load 0 mem 1 ∷ branch_if 0 9 1 ∷ load 2 mem 1 ∷ mov 1 2 ∷ branch 9 ∷ load 0 mem 1 ∷ bi 4 ret 1 2
    ∷ branch_if ret 4294967295 0 ∷ label 4294967295 ∷ label 9 ∷ [])

-- each of 32 colours holds a location; the last one is found, and the first one is given away
unfoldable pub thirty_two : Input
thirty_two =
    input 32 0 false false false []
    (load_complex 0 31 param 0 ∷ load_complex 2 29 param 2 ∷ load_complex 4 27 param 4 ∷ load_complex 6 25 param 6
    ∷ load_complex 8 23 param 8 ∷ load_complex 10 21 param 10 ∷ load_complex 12 19 param 12 ∷ load_complex 14 17 param 14
    ∷ load_complex 16 15 param 16 ∷ load_complex 18 13 param 18 ∷ load_complex 20 11 param 20 ∷ load_complex 22 9 param 22
    ∷ load_complex 24 7 param 24 ∷ load_complex 26 5 param 26 ∷ load_complex 28 3 param 28 ∷ load_complex 30 1 param 30
    ∷ load 0 param 31 ∷ load_const 31 2 ∷ bi 2 0 31 0 ∷ save 0 mem 31 ∷ [])

-- LoadComplex stays with x alone found, with y alone, with one found and the other named; it goes with both found
unfoldable pub found_halves : Input
found_halves =
    input 4 0 false false false []
    (load_const 0 1 ∷ save 0 stack 16 ∷ load_complex 1 2 stack 16 ∷ load_complex 0 3 stack 16
    ∷ load_complex ret 1 stack 16 ∷ load_complex 1 left stack 16 ∷ load_complex 2 2 stack 15 ∷ load_complex 1 1 stack 16
    ∷ complex_bi 2 0 1 0 3 2 1 ∷ save_complex 0 1 mem 0 ∷ [])

-- a half that is found is read all the same where the load is put out: the Save to x's half stays, and the one to y's
unfoldable pub joining_halves : Input
joining_halves =
    input 3 0 false false false []
    (load_const 0 7 ∷ save 0 stack 16 ∷ load_complex 1 2 stack 16 ∷ bi 2 0 1 2 ∷ save 0 stack 21
    ∷ load_complex 1 2 stack 20 ∷ complex_bi 1 0 1 0 1 2 2 ∷ save_complex 0 1 mem 0 ∷ [])

-- SaveComplex stays with x's half read, with y's half read, one below the mark of 16; it goes with none read
unfoldable pub read_halves : Input
read_halves =
    input 3 0 false false false []
    (load_complex 0 1 mem 0 ∷ save_complex 0 1 stack 15 ∷ save_complex 0 1 stack 18 ∷ save_complex 1 1 stack 20
    ∷ save_complex 1 0 stack 22 ∷ load ret stack 18 ∷ load_math 2 2 0 stack 21 ∷ load_complex 0 1 stack 22
    ∷ complex_bi 3 0 0 0 1 2 2 ∷ save 0 param 0 ∷ [])

pub record StoredLists : Type 0 where
  pub named_registers :
      of named_registers
      ≡ answered (flat (load ret mem 0 ∷ load 0 mem 0 ∷ load ret mem 0 ∷ mov left 0 ∷ bi 14 temp left 0
      ∷ save temp mem 0 ∷ load 0 mem 0 ∷ uni 19 ret 0 ∷ mov 1 right ∷ []))
  pub moves :
      of moves
      ≡ answered (flat (load_const 0 7 ∷ mov 1 0 ∷ save 0 mem 0 ∷ fused 1 1 0 1 0 ∷ save ret mem 0 ∷ mov 0 1
      ∷ save 0 param 0 ∷ []))
  pub first_free :
      of first_free
      ≡ answered (flat (load 0 mem 0 ∷ load 1 mem 1 ∷ bi 3 2 0 1 ∷ load_const 0 1 ∷ load 1 mem 0 ∷ fused 3 0 0 1 2
      ∷ save 0 param 0 ∷ load 2 mem 1 ∷ save 2 mem 2 ∷ []))
  pub older_holder :
      of older_holder
      ≡ answered (flat (load 0 mem 0 ∷ load_const 1 5 ∷ load 2 param 1 ∷ save 1 mem 0 ∷ load 2 param 0
      ∷ fused 2 0 0 1 2 ∷ save left mem 0 ∷ load 1 mem 0 ∷ bi 0 ret 0 1 ∷ []))
  pub read_by_others :
      of read_by_others
      ≡ answered (flat (load_const 0 1 ∷ save 0 stack 22 ∷ save 0 stack 21 ∷ save 0 stack 18 ∷ save 0 stack 20
      ∷ if_else 1 0 0 stack 22 ∷ load_math 2 1 1 stack 20 ∷ load_args 1 2 1 0 ∷ load_const_math 3 ret 1 4294967295 ∷ []))
  pub dropped_loads :
      of dropped_loads
      ≡ answered (flat (load_const 0 1 ∷ save 0 stack 17 ∷ load 1 stack 17 ∷ save 1 stack 17 ∷ bi 0 ret 0 1 ∷ []))
  pub complex_mark :
      of complex_mark
      ≡ answered (flat (load_complex 0 1 mem 0 ∷ save_complex 0 1 stack 21 ∷ save_complex 1 0 stack 24
      ∷ save_complex 0 1 stack 26 ∷ load_complex 2 1 stack 24 ∷ load 2 stack 27 ∷ fused 0 ret 0 2 1 ∷ []))
  pub complex_loads :
      of complex_loads
      ≡ answered (flat (load_complex 0 1 mem 4 ∷ save ret mem 5 ∷ load_complex 0 2 mem 4 ∷ complex_bi 0 1 3 0 2 0 1
      ∷ load_complex left 2 mem 4 ∷ load_complex 0 right mem 4 ∷ save_complex 1 temp mem 4 ∷ load_complex 1 0 mem 4
      ∷ save_complex ret 0 param 4294967294 ∷ []))
  pub same_register :
      of same_register
      ≡ answered (flat (load_complex 0 1 mem 0 ∷ load_complex 0 0 param 0 ∷ complex_bi 3 0 0 1 1 0 0
      ∷ save_complex 0 0 stack 16 ∷ load 0 stack 16 ∷ save_complex 0 0 mem 7 ∷ load 0 mem 7 ∷ []))
  pub label_and_call :
      of label_and_call
      ≡ answered (flat (load 0 mem 0 ∷ load 1 mem 1 ∷ end ∷ label 7 ∷ load 0 mem 1 ∷ call 7 4294967295 ∷ load 0 mem 1
      ∷ save_args 255 1 0 ∷ uni 1 1 0 ∷ save 1 mem 0 ∷ []))
  pub branches :
      of branches
      ≡ answered (flat (load 0 mem 1 ∷ branch_if 0 9 1 ∷ load 0 mem 1 ∷ branch 9 ∷ load 0 mem 1 ∷ bi 4 ret 0 0
      ∷ branch_if ret 4294967295 0 ∷ label 4294967295 ∷ label 9 ∷ []))
  pub thirty_two :
      of thirty_two
      ≡ answered (flat (load_complex 0 1 param 0 ∷ load_complex 2 3 param 2 ∷ load_complex 4 5 param 4
      ∷ load_complex 6 7 param 6 ∷ load_complex 8 9 param 8 ∷ load_complex 10 11 param 10 ∷ load_complex 12 13 param 12
      ∷ load_complex 14 15 param 14 ∷ load_complex 16 17 param 16 ∷ load_complex 18 19 param 18
      ∷ load_complex 20 21 param 20 ∷ load_complex 22 23 param 22 ∷ load_complex 24 25 param 24
      ∷ load_complex 26 27 param 26 ∷ load_complex 28 29 param 28 ∷ load_complex 30 31 param 30 ∷ load_const 0 2
      ∷ bi 2 0 0 31 ∷ save 0 mem 31 ∷ []))
  pub found_halves :
      of found_halves
      ≡ answered (flat (load_const 0 1 ∷ save 0 stack 16 ∷ load_complex 0 1 stack 16 ∷ load_complex ret 1 stack 16
      ∷ load_complex 0 left stack 16 ∷ load_complex 2 0 stack 15 ∷ complex_bi 2 3 0 0 1 0 1 ∷ save_complex 3 0 mem 0
      ∷ []))
  pub joining_halves :
      of joining_halves
      ≡ answered (flat (load_const 0 7 ∷ save 0 stack 16 ∷ load_complex 0 1 stack 16 ∷ bi 2 2 0 1 ∷ save 2 stack 21
      ∷ load_complex 0 2 stack 20 ∷ complex_bi 1 0 1 2 0 2 2 ∷ save_complex 0 1 mem 0 ∷ []))
  pub read_halves :
      of read_halves
      ≡ answered (flat (load_complex 0 1 mem 0 ∷ save_complex 0 1 stack 15 ∷ save_complex 0 1 stack 18
      ∷ save_complex 1 1 stack 20 ∷ load ret stack 18 ∷ load_math 2 2 0 stack 21 ∷ complex_bi 3 2 2 1 0 2 2
      ∷ save 2 param 0 ∷ []))

pub record StoredAccounts : Type 0 where
  pub named_registers :
      account named_registers
      ≡ counts 0 0 1 0 ((0, 5) ∷ (0, 8) ∷ (1, 9) ∷ [])
      ((mem, 0) ∷ [])
  pub moves :
      account moves
      ≡ counts 1 0 2 0 ((0, 5) ∷ (1, 5) ∷ (0, 5) ∷ (1, 6) ∷ (1, 8) ∷ (0, 9) ∷ [])
      []
  pub first_free :
      account first_free
      ≡ counts 0 1 0 0 ((0, 2) ∷ (1, 2) ∷ (2, 6) ∷ (0, 6) ∷ (1, 4) ∷ (1, 6) ∷ (0, 7) ∷ (2, 9) ∷ [])
      ((mem, 0) ∷ (mem, 1) ∷ [])
  pub older_holder :
      account older_holder
      ≡ counts 0 1 0 0 ((0, 6) ∷ (1, 6) ∷ (2, 2) ∷ (1, 4) ∷ (2, 6) ∷ (0, 9) ∷ (1, 9) ∷ [])
      ((mem, 0) ∷ (param, 1) ∷ (param, 0) ∷ [])
  pub read_by_others :
      account read_by_others
      ≡ counts 0 0 0 1 ((0, 6) ∷ (1, 7) ∷ (1, 9) ∷ [])
      ((stack, 22) ∷ (stack, 20) ∷ (mem, 0) ∷ (stack, 21) ∷ [])
  pub dropped_loads :
      account dropped_loads
      ≡ counts 0 2 0 3 ((0, 4) ∷ (0, 3) ∷ (1, 9) ∷ (0, 9) ∷ [])
      ((stack, 17) ∷ [])
  pub complex_mark :
      account complex_mark
      ≡ counts 0 1 0 1 ((0, 4) ∷ (1, 4) ∷ (0, 8) ∷ (1, 5) ∷ (2, 6) ∷ (1, 8) ∷ (2, 8) ∷ [])
      ((mem, 0) ∷ (mem, 1) ∷ (stack, 24) ∷ (stack, 25) ∷ (stack, 27) ∷ [])
  pub complex_loads :
      account complex_loads
      ≡ counts 0 1 0 0 ((0, 0) ∷ (1, 3) ∷ (0, 3) ∷ (2, 3) ∷ (1, 6) ∷ (3, 3) ∷ (2, 4) ∷ (0, 5) ∷ (1, 7) ∷ (0, 8)
      ∷ (0, 9) ∷ [])
      ((mem, 4) ∷ (mem, 5) ∷ [])
  pub same_register :
      account same_register
      ≡ counts 0 2 0 0 ((0, 0) ∷ (1, 2) ∷ (0, 1) ∷ (0, 2) ∷ (0, 2) ∷ (0, 3) ∷ (0, 4) ∷ (0, 6) ∷ (0, 7) ∷ (0, 8) ∷ [])
      ((mem, 0) ∷ (mem, 1) ∷ (param, 0) ∷ (param, 1) ∷ (stack, 16) ∷ (mem, 7) ∷ [])
  pub label_and_call :
      account label_and_call
      ≡ counts 0 0 0 0 ((0, 0) ∷ (1, 1) ∷ (0, 4) ∷ (0, 8) ∷ (1, 9) ∷ [])
      ((mem, 0) ∷ (mem, 1) ∷ [])
  pub branches :
      account branches
      ≡ counts 0 0 1 0 ((0, 1) ∷ (0, 6) ∷ (0, 6) ∷ (0, 5) ∷ [])
      ((mem, 1) ∷ [])
  pub thirty_two :
      account thirty_two
      ≡ counts 0 1 0 0 ((0, 0) ∷ (1, 0) ∷ (2, 1) ∷ (3, 1) ∷ (4, 2) ∷ (5, 2) ∷ (6, 3) ∷ (7, 3) ∷ (8, 4) ∷ (9, 4)
      ∷ (10, 5) ∷ (11, 5) ∷ (12, 6) ∷ (13, 6) ∷ (14, 7) ∷ (15, 7) ∷ (16, 8) ∷ (17, 8) ∷ (18, 9) ∷ (19, 9) ∷ (20, 10)
      ∷ (21, 10) ∷ (22, 11) ∷ (23, 11) ∷ (24, 12) ∷ (25, 12) ∷ (26, 13) ∷ (27, 13) ∷ (28, 14) ∷ (29, 14) ∷ (30, 15)
      ∷ (31, 15) ∷ (31, 18) ∷ (0, 18) ∷ (0, 19) ∷ [])
      ((param, 0) ∷ (param, 1) ∷ (param, 2) ∷ (param, 3) ∷ (param, 4) ∷ (param, 5) ∷ (param, 6) ∷ (param, 7)
      ∷ (param, 8) ∷ (param, 9) ∷ (param, 10) ∷ (param, 11) ∷ (param, 12) ∷ (param, 13) ∷ (param, 14) ∷ (param, 15)
      ∷ (param, 16) ∷ (param, 17) ∷ (param, 18) ∷ (param, 19) ∷ (param, 20) ∷ (param, 21) ∷ (param, 22) ∷ (param, 23)
      ∷ (param, 24) ∷ (param, 25) ∷ (param, 26) ∷ (param, 27) ∷ (param, 28) ∷ (param, 29) ∷ (param, 30) ∷ (param, 31)
      ∷ [])
  pub found_halves :
      account found_halves
      ≡ counts 0 2 0 0 ((0, 1) ∷ (0, 2) ∷ (1, 2) ∷ (0, 8) ∷ (1, 8) ∷ (1, 4) ∷ (0, 5) ∷ (2, 6) ∷ (0, 8) ∷ (0, 7)
      ∷ (1, 8) ∷ (3, 9) ∷ (0, 9) ∷ [])
      ((stack, 16) ∷ (stack, 17) ∷ (stack, 15) ∷ [])
  pub joining_halves :
      account joining_halves
      ≡ counts 0 0 0 0 ((0, 1) ∷ (0, 3) ∷ (1, 3) ∷ (2, 6) ∷ (0, 6) ∷ (2, 6) ∷ (0, 7) ∷ (1, 7) ∷ [])
      ((stack, 16) ∷ (stack, 17) ∷ (stack, 20) ∷ (stack, 21) ∷ [])
  pub read_halves :
      account read_halves
      ≡ counts 0 1 0 1 ((0, 6) ∷ (1, 4) ∷ (2, 8) ∷ (1, 8) ∷ (0, 8) ∷ (2, 8) ∷ (2, 9) ∷ [])
      ((mem, 0) ∷ (mem, 1) ∷ (stack, 18) ∷ (stack, 21) ∷ [])
