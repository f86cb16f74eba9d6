-- Public: the file's limits: bytes lowest first, a flag, and a file that is just long enough, short by one and long by one; and that every
-- word of a reduced list fits a file.
use Rattle.std.specs.Prelude.{◌≡◌, ℕ, ◌^◌, ◌<◌, true, false, List, [], ◌∷◌, length, get_or, replicate}
use Rattle.mir.specs.declared.config.Settings.{Settings}
use Rattle.mir.specs.Answers.{Passed, Refused}
use Rattle.passes.specs.Contract.{reduced}
use Rattle.passes.specs.Machine.{Passing}
use Rattle.file.specs.File.{flag, word_in, bytes_of, pair_count, record_count, well_formed, words_verdict}

-- bytes of 0: 28 of them are the file of no pairs and no records
abbrev zeros : ℕ → List ℕ
zeros n = replicate n 0

pub record FileCases : Type 0 where
  pub unset : flag 0 ≡ false
  pub set : flag 4294967295 ≡ true
  -- little-endian
  pub word : word_in (1 ∷ 2 ∷ 3 ∷ 4 ∷ 5 ∷ 6 ∷ 7 ∷ 8 ∷ []) 1 ≡ 134678021
  pub bytes : bytes_of (134678021 ∷ []) ≡ 5 ∷ 6 ∷ 7 ∷ 8 ∷ []
  -- the file of no pairs and no records
  pub no_words : words_verdict (zeros 28) [] ≡ Passed
  pub short_file : words_verdict (zeros 27) [] ≡ Refused 3 0
  pub long_file : words_verdict (zeros 29) [] ≡ Refused 3 0
  -- 512 of each at most
  pub largest : (file : List ℕ) → pair_count file ≡ 512 → record_count file ≡ 512 → length file ≡ 20508 → well_formed file ≡ true
  pub pairs_513 : (file : List ℕ) → pair_count file ≡ 513 → well_formed file ≡ false
  pub records_513 : (file : List ℕ) → pair_count file ≡ 512 → record_count file ≡ 513 → well_formed file ≡ false

-- every word of a reduced list is one of 32 bits
abbrev pub ReducedSmall : Type 0
ReducedSmall =
    (s : Settings) (list table : List ℕ) → Passing s list table
    → (k : ℕ) → k < length (reduced s list table) → get_or (reduced s list table) k 0 < 2 ^ 32
