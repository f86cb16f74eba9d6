-- Public: the exported functions' words: each word's places, and a file or an output that is just long enough, short by one and long by
-- one.
use Rattle.std.specs.Prelude.{◌≡◌, ℕ, List, [], ◌∷◌, replicate}
use Rattle.mir.specs.Answers.{Passed, Refused}
use Rattle.walks.specs.Lent.{lent}
use Rattle.file.specs.File.{settings_of}
use Rattle.rudzaviks.specs.Exports.{refusal_word, place_word, parts_words, survey_verdict, records_word, verdict_with, bytes_verdict}

-- bytes of 0: 28 of them are the file of no pairs and no records
abbrev zeros : ℕ → List ℕ
zeros n = replicate n 0

pub record ExportCases : Type 0 where
  pub refused : refusal_word 9 65535 ≡ 38654771199
  -- a survey's parts, the mask in two words; and question 4, which asks for four of them, after 3 and before 5
  pub place : place_word (5 ∷ 2 ∷ 65535 ∷ []) ≡ 65535
  pub absent : place_word (5 ∷ 2 ∷ []) ≡ 4294967295
  pub parts : parts_words (18446744073709551615 ∷ 64 ∷ 65535 ∷ []) ≡ 4294967295 ∷ 4294967295 ∷ 64 ∷ 65535 ∷ []
  pub parts_absent : parts_words (5 ∷ 2 ∷ []) ≡ 5 ∷ 0 ∷ 2 ∷ 4294967295 ∷ []
  pub high_word : parts_words (12884901893 ∷ 4 ∷ 0 ∷ []) ≡ 5 ∷ 3 ∷ 4 ∷ 0 ∷ []
  pub four_parts : survey_verdict 0 [] [] (zeros 4) ≡ Passed
  pub three_parts : survey_verdict 0 (21 ∷ zeros 7) [] (zeros 3) ≡ Refused 4 0
  pub registers_first : survey_verdict 65 (21 ∷ []) [] (zeros 3) ≡ Refused 1 0
  pub ragged_first : survey_verdict 0 (21 ∷ []) [] (zeros 3) ≡ Refused 3 0
  pub no_kind : survey_verdict 0 (21 ∷ zeros 7) [] (zeros 4) ≡ Refused 5 0
  pub records : records_word (8 ∷ 7 ∷ 6 ∷ 5 ∷ 4 ∷ 3 ∷ 2 ∷ 1 ∷ []) ≡ 8
  -- question 4 asks for eight counts
  pub eight_counts : verdict_with (settings_of 0 0 0 0 0) [] [] (lent [] [] [] []) (zeros 8) ≡ Passed
  pub seven_counts : verdict_with (settings_of 0 0 0 0 0) [] [] (lent [] [] [] []) (zeros 7) ≡ Refused 4 0
  -- the file of no pairs and no records
  pub empty_file : bytes_verdict (zeros 28) (zeros 4) ≡ Passed
  pub short_output : bytes_verdict (zeros 28) (zeros 3) ≡ Refused 4 0
  pub short_file : bytes_verdict (zeros 27) (zeros 4) ≡ Refused 3 0
  pub long_file : bytes_verdict (zeros 29) (zeros 4) ≡ Refused 3 0
