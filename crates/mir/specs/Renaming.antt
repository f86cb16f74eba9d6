-- Public, document 01, section 2, as far as question 9 asks: which static each register holds before a record.
use Rattle.std.specs.Prelude.{ℕ, zero, suc, ◌+◌, cond, ◌||◌, List, [], ◌∷◌, eqb, set, replicate, Option, Some, None}
use Rattle.mir.specs.Records.{is_gen, record_at, word_at, max_regs}
use Rattle.mir.specs.Shapes.{call, label, dests}

-- no register holds a static
abbrev pub fresh : List (Option ℕ)
fresh = replicate max_regs None

-- a written Gen register takes static n; a named register makes none
abbrev pub one : ℕ → ℕ
one w = cond (is_gen w) 1 0

abbrev pub produce : ℕ → ℕ → List (Option ℕ) → List (Option ℕ)
produce w n regs = cond (is_gen w) (set regs w (Some n)) regs

-- the destinations in order: how many statics they make, and the registers after them, n being the first static
unfoldable pub gens : List ℕ → ℕ
gens [] = 0
gens (w ∷ ws) = one w + gens ws

unfoldable pub produced : List ℕ → ℕ → List (Option ℕ) → List (Option ℕ)
produced [] n regs = regs
produced (w ∷ ws) n regs = produced ws (n + one w) (produce w n regs)

-- Label and Call forget every register's static; any other record writes its destinations
unfoldable pub renamed : List ℕ → ℕ → List (Option ℕ) → List (Option ℕ)
renamed rec n regs =
    cond (eqb (word_at rec 0) call || eqb (word_at rec 0) label) fresh (produced (dests rec) n regs)

-- before record i: how many statics there are, and which one each register holds
unfoldable pub statics_to : List ℕ → ℕ → ℕ
statics_to list zero = 0
statics_to list (suc i) = statics_to list i + gens (dests (record_at list i))

unfoldable pub regs_to : List ℕ → ℕ → List (Option ℕ)
regs_to list zero = fresh
regs_to list (suc i) = renamed (record_at list i) (statics_to list i) (regs_to list i)
