-- Public: what an operation answers, in document 01's terms: the answer's values, or the number of the question that refused
-- the list and the index of its first bad record; and what a slice holds that was written from its start on.
use Rattle.std.specs.Prelude.{ℕ, List, ◌++◌, Result, Ok, Err, codes, length, drop}
use Rattle.std.specs.Fmt.{decimal}
use Rattle.mir.specs.declared.refusal.Question.{Question}
use Rattle.mir.specs.declared.refusal.Question.TheVariants.{FewRegisters, FewArgs, Lengths, Room, Kind, Fields, Registers, Partner, Named, Since, Labels}
use Rattle.mir.specs.declared.refusal.Refusal.{Refusal}

-- whether a list passes: a refusal has the question's number and the index of the first bad record
pub data Verdict : Type 0 where
  Passed : Verdict
  Refused : (number index : ℕ) → Verdict

-- the questions' numbers
abbrev pub number_of : Question → ℕ
number_of FewRegisters = 1
number_of FewArgs = 2
number_of Lengths = 3
number_of Room = 4
number_of Kind = 5
number_of Fields = 6
number_of Registers = 7
number_of Partner = 8
number_of Named = 9
number_of Since = 15
number_of Labels = 16

abbrev pub refusal_of : Question → ℕ → Refusal
refusal_of question index = record { question = question; index = index }

-- a refusal as the program prints it
abbrev pub refusal_text : Refusal → List ℕ
refusal_text r = codes "refused " ++ decimal (number_of r.question) ++ codes " at " ++ decimal r.index

-- what the questions that are put to a record come to: the number of the first that is answered with no, or 0
abbrev pub no_in : Result (Unit {0}) Question → ℕ
no_in (Ok passed) = 0
no_in (Err question) = number_of question

-- what the questions that are put to a list come to
abbrev pub verdict_in : Result (Unit {0}) Refusal → Verdict
verdict_in (Ok passed) = Passed
verdict_in (Err r) = Refused (number_of r.question) r.index

pub data Report : Type 0 where
  answered : (values : List ℕ) → Report
  refused : (number index : ℕ) → Report

-- a list that passes has the answer; any other is refused
abbrev pub unless : Verdict → List ℕ → Report
unless Passed values = answered values
unless (Refused number index) values = refused number index

-- a slice that starts with the words or entries, all else being what it held
abbrev pub over : {Item : Type 0} → List Item → List Item → List Item
over items held = items ++ drop (length items) held

-- and so if the list passes; a refusal changes nothing
abbrev pub left : {Item : Type 0} → Verdict → List Item → List Item → List Item
left Passed items held = over items held
left (Refused number index) items held = held
