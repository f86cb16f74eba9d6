-- Public: instructions as records, the spaces and the named registers, for the cases.
use Rattle.std.specs.Prelude.{ℕ, List}
use Rattle.mir.specs.Shapes.{row}

-- ---- spaces and registers

abbrev pub stack : ℕ
stack = 0

abbrev pub mem : ℕ
mem = 1

abbrev pub param : ℕ
param = 2

abbrev pub ret : ℕ
ret = 256

abbrev pub temp : ℕ
temp = 257

abbrev pub left : ℕ
left = 258

abbrev pub right : ℕ
right = 259

-- ---- instructions; g is a Gen's number

abbrev pub load_const : ℕ → ℕ → List ℕ
load_const g c = row 9 g c 0 0 0 0 0

abbrev pub load : ℕ → ℕ → ℕ → List ℕ
load g space index = row 5 g space index 0 0 0 0

abbrev pub save : ℕ → ℕ → ℕ → List ℕ
save g space index = row 6 g space index 0 0 0 0

abbrev pub plus : ℕ → ℕ → ℕ → List ℕ
plus dst s1 s2 = row 3 0 dst s1 s2 0 0 0

abbrev pub mov : ℕ → ℕ → List ℕ
mov dst s1 = row 4 dst s1 0 0 0 0 0

abbrev pub label : ℕ → List ℕ
label name = row 15 name 0 0 0 0 0 0

abbrev pub nop : List ℕ
nop = row 0 0 0 0 0 0 0 0

abbrev pub end : List ℕ
end = row 1 0 0 0 0 0 0 0

abbrev pub uni : ℕ → ℕ → ℕ → List ℕ
uni op dst s1 = row 2 op dst s1 0 0 0 0

abbrev pub bi : ℕ → ℕ → ℕ → ℕ → List ℕ
bi op dst s1 s2 = row 3 op dst s1 s2 0 0 0

abbrev pub load_complex : ℕ → ℕ → ℕ → ℕ → List ℕ
load_complex xd yd space index = row 7 xd yd space index 0 0 0

abbrev pub save_complex : ℕ → ℕ → ℕ → ℕ → List ℕ
save_complex xs ys space index = row 8 xs ys space index 0 0 0

abbrev pub load_args : ℕ → ℕ → ℕ → ℕ → List ℕ
load_args first count complex ultra = row 10 first count complex ultra 0 0 0

abbrev pub save_args : ℕ → ℕ → ℕ → List ℕ
save_args n complex ultra = row 11 n complex ultra 0 0 0 0

abbrev pub call : ℕ → ℕ → List ℕ
call name n = row 12 name n 0 0 0 0 0

abbrev pub fused : ℕ → ℕ → ℕ → ℕ → ℕ → List ℕ
fused op dst a b c = row 13 op dst a b c 0 0

abbrev pub if_else : ℕ → ℕ → ℕ → ℕ → ℕ → List ℕ
if_else dst t f space index = row 14 dst t f space index 0 0

abbrev pub branch : ℕ → List ℕ
branch name = row 16 name 0 0 0 0 0 0

abbrev pub branch_if : ℕ → ℕ → ℕ → List ℕ
branch_if cond name else = row 17 cond name else 0 0 0 0

abbrev pub load_math : ℕ → ℕ → ℕ → ℕ → ℕ → List ℕ
load_math op dst s1 space index = row 18 op dst s1 space index 0 0

abbrev pub load_const_math : ℕ → ℕ → ℕ → ℕ → List ℕ
load_const_math op dst s1 c = row 19 op dst s1 c 0 0 0

abbrev pub complex_bi : ℕ → ℕ → ℕ → ℕ → ℕ → ℕ → ℕ → List ℕ
complex_bi op xd yd x1 y1 x2 y2 = row 20 op xd yd x1 y1 x2 y2
