-- Lists that the promise tells apart.
-- By the machine's runs on them; the pool colour by colour.
use Rattle.std.specs.Prelude.{Some}
use Prim.Native.Nat.{zero, suc}
use mathlib.Core.List.{[], ◌∷◌}
use mathlib.Core.Logic.{inl, inr}
use mathlib.Core.Path.{◌≡◌, refl}
use native.Mathlib.Omega.{arith}
use Rattle.mir.specs.declared.config.Settings.{Settings}
use Rattle.mir.specs.Folds.{all_below}
use Rattle.mir.specs.Records.{flat, record_at}
use Rattle.mir.specs.Renaming.{gens, produced, renamed, statics_to, regs_to}
use Rattle.mir.specs.Shapes.{shape_of, dests, sources}
use Rattle.mir.proofs.Clash.{clash}
use Rattle.passes.specs.Create.{consumed, ends_to, ends_of}
use Rattle.passes.specs.Color.{loc, pairs_from, first_below, plain_choice, choose, HasPool, after_dest, after_dests, found_all}
use Rattle.passes.specs.Color.{setup, is_member, joined, color_step, color_to, PoolsNeverEmpty}
use Rattle.passes.specs.Instructions.{ret, mov, uni, label, branch_if}
use Rattle.passes.specs.Machine.{effect, turn, run_to, run, AllKinds, Preserves}
use Rattle.passes.specs.MachineCases.{word, word_of, start, digits1, digits2, digits3, digits4, digits5, returned}
use Rattle.passes.specs.Promise.{with_registers, both_needed, PromiseTold}
use Rattle.passes.proofs.BranchesTold.{branches_told}
use Rattle.passes.proofs.Told.{lists_told}

straight_told : (s : Settings) → Preserves s (flat (mov ret 0 ∷ [])) [] → ⊥
unfolding word word_of start digits1 digits2 digits3 digits4 digits5 returned record_at effect turn run_to run AllKinds all_below
straight_told s h = lists_told s (mov ret 0 ∷ []) [] (λ (e : 10 ≡ 20). omega arith) (h.straight refl)

covered_told : (s : Settings) → Preserves s (flat (branch_if 0 7 0 ∷ uni 1 ret 0 ∷ label 7 ∷ [])) (flat (branch_if 0 7 1 ∷ uni 1 ret 0 ∷ label 7 ∷ [])) → ⊥
unfolding record_at AllKinds all_below
covered_told s h = (branches_told s).by_else (h.branches refl)

-- the first colour is needed at record 1, and no other one is of the count
no_pool : HasPool 1 1 (Some (loc 1 1)) (color_to (setup (with_registers 1) both_needed []) 1) → ⊥
unfolding record_at gens produced renamed statics_to regs_to shape_of dests sources consumed ends_to ends_of pairs_from first_below plain_choice
    choose after_dest after_dests found_all is_member joined color_step color_to
no_pool (inl found) = clash (cc)
no_pool (inr (zero, below, free)) = clash (cc)
no_pool (inr (suc c, below, free)) = omega arith

pub promise_told : PromiseTold
unfolding record_at gens produced renamed statics_to regs_to shape_of dests sources consumed ends_to ends_of pairs_from first_below plain_choice
    choose after_dest after_dests found_all is_member joined color_step color_to
promise_told =
    record {
      straight = straight_told;
      branches = covered_told;
      one_register = λ h. no_pool ((h 1 (omega arith)).0 refl);
      two_registers = two;
    }
  where
    two : PoolsNeverEmpty (with_registers 2) both_needed []
    two zero l = (λ g. inr (0, omega arith, refl), tt)
    two (suc zero) l = (λ g. inr (1, omega arith, refl), tt)
    two (suc (suc zero)) l = (λ g. inr (0, omega arith, refl), tt)
    two (suc (suc (suc i))) l = absurd (omega arith)
