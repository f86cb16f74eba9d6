-- By computation.
use Rattle.std.specs.Prelude.{◌≡◌, [], ◌∷◌}
use native.Mathlib.Omega.{arith}
use Rattle.mir.specs.Records.{record_at}
use Rattle.passes.specs.Instructions.{mem, ret, temp, mov, uni, bi, fused, if_else, complex_bi}
use Rattle.passes.specs.Machine.{effect, turn, run_to, run}
use Rattle.passes.specs.MachineCases.{word, word_of, start, digits1, digits2, digits3, digits4, digits5, returned}
use Rattle.passes.proofs.Told.{lists_told}
use Rattle.passes.proofs.laws.lists_are_told.Goals as goal

pub returns : goal.returns
unfolding word word_of start digits1 digits2 digits3 digits4 digits5 returned record_at effect turn run_to run
returns c s =
    record {
      by_uni = lists_told s (uni 1 ret 0 ∷ []) (uni 2 ret 0 ∷ []) (λ (h : 110 ≡ 210). omega arith);
      by_bi = lists_told s (bi 1 ret 0 0 ∷ []) (bi 2 ret 0 0 ∷ []) (λ (h : 11010 ≡ 21010). omega arith);
      by_fused = lists_told s (fused 1 ret 0 0 0 ∷ []) (fused 2 ret 0 0 0 ∷ []) (λ (h : 1101010 ≡ 2101010). omega arith);
      by_complex_x = lists_told s (complex_bi 1 ret temp 0 0 0 0 ∷ []) (complex_bi 2 ret temp 0 0 0 0 ∷ []) (λ (h : 110101010 ≡ 210101010). omega arith);
      by_complex_y = lists_told s (complex_bi 1 temp ret 0 0 0 0 ∷ []) (complex_bi 2 temp ret 0 0 0 0 ∷ []) (λ (h : 10110101010 ≡ 10210101010). omega arith);
      by_start = lists_told s (mov ret 0 ∷ []) [] (λ (h : 10 ≡ 20). omega arith);
      by_condition = lists_told s (if_else ret 1 2 mem 0 ∷ []) (mov ret 2 ∷ []) (λ (h : 11 ≡ 12). omega arith);
    }
