-- Public, document 01, section 1: the 21 kinds, and what each word of a record is by its kind.
use Rattle.std.specs.Prelude.{ℕ, ◌+◌, List, [], ◌∷◌, get_or, take, drop}
use Rattle.mir.specs.declared.shape.Action.{Action}
use Rattle.mir.specs.declared.shape.Action.TheVariants.{Mov, Load, Save, LoadComplex, SaveComplex, LoadArgs, Clear, Other}
use Rattle.mir.specs.declared.shape.Shape.{Shape}
use Rattle.mir.specs.Records.{word_at}

abbrev pub shape : Action → ℕ → ℕ → ℕ → ℕ → List ℕ → Shape
shape a r d s l m = record { action = a; regs = r; dsts = d; srcs = s; loc = l; most = m }

-- eight words
abbrev pub row : ℕ → ℕ → ℕ → ℕ → ℕ → ℕ → ℕ → ℕ → List ℕ
row a b c d e f g h = a ∷ b ∷ c ∷ d ∷ e ∷ f ∷ g ∷ h ∷ []

-- the kinds that the definitions name
abbrev pub nop : ℕ
nop = 0

abbrev pub mov : ℕ
mov = 4

abbrev pub save : ℕ
save = 6

abbrev pub save_complex : ℕ
save_complex = 8

abbrev pub load_args : ℕ
load_args = 10

abbrev pub call : ℕ
call = 12

abbrev pub label : ℕ
label = 15

abbrev pub branch : ℕ
branch = 16

abbrev pub branch_if : ℕ
branch_if = 17

-- the largest word, register word and space
abbrev pub any : ℕ
any = 4294967295

abbrev pub reg : ℕ
reg = 259

abbrev pub spc : ℕ
spc = 2

-- a record without fields
abbrev pub bare : Shape
bare = shape Other 0 0 0 0 (row 20 0 0 0 0 0 0 0)

-- by kind: the action; the place of the first register word, and how many destinations and then sources stand there;
-- the place of the location, 0 for none; the largest value of each word
abbrev pub shapes : List Shape
shapes =
    bare  -- 0 Nop
    ∷ bare  -- 1 End
    ∷ shape Other 2 1 1 0 (row 20 19 reg reg 0 0 0 0)  -- 2 Uni
    ∷ shape Other 2 1 2 0 (row 20 14 reg reg reg 0 0 0)  -- 3 Bi
    ∷ shape Mov 1 1 1 0 (row 20 reg reg 0 0 0 0 0)  -- 4 Mov
    ∷ shape Load 1 1 0 2 (row 20 reg spc any 0 0 0 0)  -- 5 Load
    ∷ shape Save 1 0 1 2 (row 20 reg spc any 0 0 0 0)  -- 6 Save
    ∷ shape LoadComplex 1 2 0 3 (row 20 reg reg spc any 0 0 0)  -- 7 LoadComplex
    ∷ shape SaveComplex 1 0 2 3 (row 20 reg reg spc any 0 0 0)  -- 8 SaveComplex
    ∷ shape Other 1 1 0 0 (row 20 reg any 0 0 0 0 0)  -- 9 LoadConst
    ∷ shape LoadArgs 0 0 0 0 (row 20 any any 1 1 0 0 0)  -- 10 LoadArgs
    ∷ shape Other 0 0 0 0 (row 20 255 1 1 0 0 0 0)  -- 11 SaveArgs
    ∷ shape Clear 0 0 0 0 (row 20 any any 0 0 0 0 0)  -- 12 Call
    ∷ shape Other 2 1 3 0 (row 20 3 reg reg reg reg 0 0)  -- 13 Fused
    ∷ shape Other 1 1 2 4 (row 20 reg reg reg spc any 0 0)  -- 14 IfElse
    ∷ shape Clear 0 0 0 0 (row 20 any 0 0 0 0 0 0)  -- 15 Label
    ∷ shape Clear 0 0 0 0 (row 20 any 0 0 0 0 0 0)  -- 16 Branch
    ∷ shape Clear 1 0 1 0 (row 20 reg any 1 0 0 0 0)  -- 17 BranchIf
    ∷ shape Other 2 1 1 4 (row 20 3 reg reg spc any 0 0)  -- 18 LoadMath
    ∷ shape Other 2 1 1 0 (row 20 3 reg reg any 0 0 0)  -- 19 LoadConstMath
    ∷ shape Other 2 2 4 0 (row 20 3 reg reg reg reg reg reg)  -- 20 ComplexBi
    ∷ []

unfoldable pub shape_of : ℕ → Shape
shape_of kind = get_or shapes kind bare

abbrev pub shape_for : List ℕ → Shape
shape_for rec = shape_of (word_at rec 0)

-- the register words of a record: its destinations, and after them its sources
unfoldable pub dests : List ℕ → List ℕ
dests rec = take (shape_for rec).dsts (drop (shape_for rec).regs rec)

unfoldable pub sources : List ℕ → List ℕ
sources rec = take (shape_for rec).srcs (drop ((shape_for rec).regs + (shape_for rec).dsts) rec)

unfoldable pub registers : List ℕ → List ℕ
registers rec = take ((shape_for rec).dsts + (shape_for rec).srcs) (drop (shape_for rec).regs rec)
