-- Public, document 01, section 6, and document 02, request 13: the used registers and the place of a label, in one survey.
use Rattle.std.specs.Prelude.{ℕ, zero, suc, ◌-◌, ◌^◌, Bool, true, cond, List, [], ◌∷◌, Option, Some, None, Result, Ok, Err, eqb}
use Rattle.std.specs.Int.Bits.{bit_or}
use Rattle.std.specs.Int.Count.{ones_in}
use Rattle.survey.specs.declared.Registers.{Registers}
use Rattle.mir.specs.declared.refusal.Refusal.{Refusal}
use Rattle.mir.specs.Answers.{Report, answered, refused, number_of, unless}
use Rattle.mir.specs.Branches.{label_at}
use Rattle.std.specs.List.{list_all}
use Rattle.mir.specs.Folds.{last_below}
use Rattle.mir.specs.Questions.{refusal_beside}
use Rattle.mir.specs.Records.{records, record_at, word_at, is_gen, max_regs}
use Rattle.mir.specs.Shapes.{branch_if, dests, sources}

-- the registers that a record counts: its destinations, and BranchIf its condition
unfoldable pub counted : List ℕ → List ℕ
counted rec = cond (eqb (word_at rec 0) branch_if) (sources rec) (dests rec)

-- the mask of registers, a bit for each; a record counts only if all of its counted registers are Gen
unfoldable pub bits : List ℕ → ℕ
bits [] = 0
bits (w ∷ ws) = bit_or (2 ^ w) (bits ws)

unfoldable pub mask_of : List ℕ → ℕ
mask_of ws = cond (list_all is_gen ws) (bits ws) 0

unfoldable pub get_dst : List ℕ → ℕ
get_dst rec = mask_of (counted rec)

-- the mask of all registers
abbrev pub every : ℕ
every = 2 ^ max_regs - 1

-- of the first i records, and of the whole list: every register if compress
unfoldable pub mask_to : List ℕ → ℕ → ℕ
mask_to list zero = 0
mask_to list (suc i) = bit_or (mask_to list i) (get_dst (record_at list i))

unfoldable pub used_mask : Bool → List ℕ → ℕ
used_mask compress list = cond compress every (mask_to list (records list))

-- the parts of the answer: the mask; how many registers it names, which is its ones; and the index of the last Label with the
-- number, or no value where it is absent
unfoldable pub parts : Bool → ℕ → List ℕ → List ℕ
parts compress name list =
    let mask = used_mask compress list in
    mask ∷ ones_in max_regs mask ∷ last_below (label_at list name) (records list)

-- a list that passes has these parts; any other is refused
unfoldable pub survey_of : ℕ → Bool → ℕ → List ℕ → List ℕ → Report
survey_of count_regs compress name list table = unless (refusal_beside true count_regs list table) (parts compress name list)

-- what the code's answer says
abbrev pub place_in : Option ℕ → List ℕ
place_in (Some index) = index ∷ []
place_in None = []

abbrev pub survey_report : Result Registers Refusal → Report
survey_report (Ok r) = answered (r.mask ∷ r.count ∷ place_in r.place)
survey_report (Err r) = refused (number_of r.question) r.index
