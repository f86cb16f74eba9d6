-- Public, document 01, section 7, and document 02, request 10: the questions put to a list before it is reduced, and the
-- refusal that they come to.
use Rattle.std.specs.Prelude.{ℕ, ◌+◌, ◌*◌, ◌/◌, ◌%◌, Bool, true, false, cond, ◌&&◌, List, [], ◌∷◌, length, get_or, leb, ltb, eqb, Option, Some, None}
use Rattle.mir.specs.declared.config.Settings.{Settings}
use Rattle.mir.specs.Answers.{Verdict}
use Rattle.mir.specs.Branches.{label_at, is_branch, label_of, past_to}
use Rattle.std.specs.List.{list_all}
use Rattle.mir.specs.Folds.{all_below, any_below, first_no, refused_at, or_else, first_refusal}
use Rattle.mir.specs.Records.{records, record_at, word_at, is_gen, max_regs}
use Rattle.mir.specs.Shapes.{any, spc, load_args, shape_for, registers, sources}
use Rattle.mir.specs.Renaming.{regs_to}

-- 1. Is count_regs at most 64?
unfoldable pub few_registers : ℕ → Bool
few_registers count_regs = leb count_regs max_regs

-- 2. Is args at most 65,535?
unfoldable pub few_args : ℕ → Bool
few_args args = leb args 65535

-- 3. Is the list a multiple of 8 words, at most 524,288, and the table even, at most 65,536?
unfoldable pub well_sized : ℕ → ℕ → Bool
well_sized list table = eqb (list % 8) 0 && leb list 524288 && eqb (table % 2) 0 && leb table 65536

-- 5. Is the kind at most 20?
unfoldable pub known_kind : List ℕ → Bool
known_kind rec = leb (word_at rec 0) 20

-- 6. Is each field in range, each unused word 0, LoadArgs' first + count at most the table's pairs, each pair it
-- names of space 0 to 2?
abbrev pub word_fits : List ℕ → List ℕ → ℕ → Bool
word_fits rec most p = leb (get_or rec p 0) (get_or most p 0)

unfoldable pub words_fit : List ℕ → List ℕ → Bool
words_fit rec most = all_below 8 (word_fits rec most)

abbrev pub space_fits : List ℕ → ℕ → ℕ → Bool
space_fits table first j = leb (get_or table ((first + j) * 2) 0) spc

unfoldable pub pairs_fit : List ℕ → ℕ → ℕ → Bool
pairs_fit table first count = leb (first + count) (length table / 2) && all_below count (space_fits table first)

unfoldable pub fields_fit : List ℕ → List ℕ → Bool
fields_fit table rec =
    words_fit rec (shape_for rec).most
    && cond (eqb (word_at rec 0) load_args) (pairs_fit table (word_at rec 1) (word_at rec 2)) true

-- 7. Is each Gen number below count_regs?
abbrev pub gen_fits : ℕ → ℕ → Bool
gen_fits count_regs w = cond (is_gen w) (ltb w count_regs) true

unfoldable pub gens_fit : ℕ → List ℕ → Bool
gens_fit count_regs rec = list_all (gen_fits count_regs) (registers rec)

-- 8. In kinds 7 and 8, is the index below 4,294,967,295?
unfoldable pub partner_fits : List ℕ → Bool
partner_fits rec = cond (leb 7 (word_at rec 0) && leb (word_at rec 0) 8) (ltb (word_at rec 4) any) true

-- 9. Has each Gen source a static?
abbrev pub is_static : Option ℕ → Bool
is_static (Some s) = true
is_static None = false

abbrev pub named : List (Option ℕ) → ℕ → Bool
named regs w = cond (is_gen w) (is_static (get_or regs w None)) true

unfoldable pub sources_named : List (Option ℕ) → List ℕ → Bool
sources_named regs rec = list_all (named regs) (sources rec)

-- 15. Was each Gen source written since the last BranchIf? `past` is how many statics were written before it; a register
-- without one is question 9's
abbrev pub is_since : ℕ → Option ℕ → Bool
is_since past (Some s) = leb past s
is_since past None = true

abbrev pub since : ℕ → List (Option ℕ) → ℕ → Bool
since past regs w = cond (is_gen w) (is_since past (get_or regs w None)) true

unfoldable pub sources_since : ℕ → List (Option ℕ) → List ℕ → Bool
sources_since past regs rec = list_all (since past regs) (sources rec)

-- what record i is refused by, or 0: 5 before 6 before 7, and for a list that is to be reduced before 8 before 9 before 15
unfoldable pub shape_no : List ℕ → ℕ → List ℕ → ℕ
shape_no table count_regs rec =
    first_no ((5, known_kind rec) ∷ (6, fields_fit table rec) ∷ (7, gens_fit count_regs rec) ∷ [])

unfoldable pub record_no : List ℕ → ℕ → List (Option ℕ) → ℕ → List ℕ → ℕ
record_no table count_regs regs past rec =
    first_no
    ((5, known_kind rec)
    ∷ (6, fields_fit table rec)
    ∷ (7, gens_fit count_regs rec)
    ∷ (8, partner_fits rec)
    ∷ (9, sources_named regs rec)
    ∷ (15, sources_since past regs rec)
    ∷ [])

-- record by record
abbrev pub shape_by : List ℕ → ℕ → List ℕ → ℕ → ℕ
shape_by table count_regs list i = shape_no table count_regs (record_at list i)

abbrev pub record_by : List ℕ → ℕ → List ℕ → ℕ → ℕ
record_by table count_regs list i = record_no table count_regs (regs_to list i) (past_to list i) (record_at list i)

unfoldable pub shape_refusal : List ℕ → ℕ → List ℕ → Verdict
shape_refusal table count_regs list = first_refusal (shape_by table count_regs list) (records list)

unfoldable pub record_refusal : List ℕ → ℕ → List ℕ → Verdict
record_refusal table count_regs list = first_refusal (record_by table count_regs list) (records list)

-- 16. Has each Branch and BranchIf a Label with its number? It is put once every record has passed
abbrev pub has_label : List ℕ → ℕ → Bool
has_label list name = any_below (records list) (label_at list name)

abbrev pub lands : List ℕ → List ℕ → Bool
lands list rec = cond (is_branch rec) (has_label list (label_of rec)) true

abbrev pub branch_by : List ℕ → ℕ → ℕ
branch_by list i = first_no ((16, lands list (record_at list i)) ∷ [])

unfoldable pub branch_refusal : List ℕ → Verdict
branch_refusal list = first_refusal (branch_by list) (records list)

-- the questions that come before any record, as operations put them one after the other: 1; 2; and 3 with 4
abbrev pub count_refusal : ℕ → Verdict
count_refusal count_regs = refused_at (first_no ((1, few_registers count_regs) ∷ [])) 0

abbrev pub args_refusal : ℕ → Verdict
args_refusal args = refused_at (first_no ((2, few_args args) ∷ [])) 0

abbrev pub lengths_refusal : Bool → ℕ → ℕ → Verdict
lengths_refusal room list table = refused_at (first_no ((3, well_sized list table) ∷ (4, room) ∷ [])) 0

-- all that come before any record, of the lengths of the list and of the table; and those that are put to the records
abbrev pub start_refusal : Bool → Settings → ℕ → ℕ → Verdict
start_refusal room s list table = or_else (count_refusal s.count_regs) (or_else (args_refusal s.args) (lengths_refusal room list table))

abbrev pub list_refusal : ℕ → List ℕ → List ℕ → Verdict
list_refusal count_regs list table = or_else (record_refusal table count_regs list) (branch_refusal list)

-- the questions that come before any record, then record by record, and then question 16; `room` is the answer to
-- question 4, which belongs to the operation that lends the buffers
unfoldable pub refusal : Bool → Settings → List ℕ → List ℕ → Verdict
refusal room s list table =
    or_else
    (refused_at
    (first_no
    ((1, few_registers s.count_regs)
    ∷ (2, few_args s.args)
    ∷ (3, well_sized (length list) (length table))
    ∷ (4, room)
    ∷ []))
    0)
    (or_else (record_refusal table s.count_regs list) (branch_refusal list))

-- section 6, as request 13 amends it: the survey of a list puts questions 1, 3 and 5 to 7 only, and where the answer is
-- written into a lent slice, question 4 after 3
unfoldable pub sizes_refusal : Bool → ℕ → ℕ → ℕ → Verdict
sizes_refusal room count_regs list table =
    refused_at (first_no ((1, few_registers count_regs) ∷ (3, well_sized list table) ∷ (4, room) ∷ [])) 0

unfoldable pub refusal_beside : Bool → ℕ → List ℕ → List ℕ → Verdict
refusal_beside room count_regs list table =
    or_else (sizes_refusal room count_regs (length list) (length table)) (shape_refusal table count_regs list)
