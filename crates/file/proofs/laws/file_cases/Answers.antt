-- By computation; the largest counts by rewriting.
use Rattle.std.specs.Prelude.{◌≡◌, ℕ, true, false, List, length, refl}
use Rattle.mir.specs.Folds.{first_refusal}
use Rattle.mir.specs.Questions.{refusal, record_refusal, branch_refusal, few_registers, few_args, well_sized}
use Rattle.file.specs.File.{word_in, words_in, bytes_of, settings_in, pair_count, table_in, record_count, list_in, well_formed, file_verdict}
use Rattle.file.proofs.laws.file_cases.Goals as goal

module _ (file : List ℕ) (pairs : pair_count file ≡ 512) where
  largest_passes : record_count file ≡ 512 → length file ≡ 20508 → well_formed file ≡ true
  unfolding well_formed
  largest_passes r l = rw (r, pairs, l)

  one_record_more : record_count file ≡ 513 → well_formed file ≡ false
  unfolding well_formed
  one_record_more r = rw (r, pairs)

one_pair_more : (file : List ℕ) → pair_count file ≡ 513 → well_formed file ≡ false
unfolding well_formed
one_pair_more file p = rw p

pub returns : goal.returns
unfolding word_in words_in bytes_of settings_in table_in list_in well_formed file_verdict refusal record_refusal branch_refusal few_registers
    few_args well_sized first_refusal
returns c =
    record {
      unset = refl;
      set = refl;
      word = refl;
      bytes = refl;
      no_words = refl;
      short_file = refl;
      long_file = refl;
      largest = largest_passes;
      pairs_513 = one_pair_more;
      records_513 = one_record_more;
    }
