-- Lists that `RunsKeepUp` tells apart.
-- By computation, up to the step at which the first of the two ends.
use Prim.Native.Nat.{ℕ, zero, suc, ◌+◌, ◌<◌}
use mathlib.Core.Bool.{Bool, true, false}
use mathlib.Core.List.{List, [], ◌∷◌}
use mathlib.Core.Path.{◌≡◌, refl, ap, sym, ◌∙◌}
use native.Mathlib.Omega.{arith}
use lib.Dec.{eqb}
use Rattle.mir.specs.declared.config.Settings.{Settings}
use Rattle.mir.specs.Branches.{is_label, label_of}
use Rattle.mir.specs.Folds.{last_below}
use Rattle.mir.specs.Records.{flat, record_at}
use Rattle.mir.proofs.Clash.{clash}
use Rattle.passes.specs.BranchRuns.{BranchesToldFor}
use Rattle.passes.specs.Instructions.{ret, label, nop, end, uni, branch, branch_if}
use Rattle.passes.specs.Machine.{Meaning, State, Point, effect, jumps, target, step, ended, onward, steps_to, EndsIn, Word, on_words, RunsKeepUp}
use Rattle.passes.specs.MachineCases.{word, word_of, start, digits1, digits2, digits3, digits4, digits5}

module _ (s : Settings) where
  -- a BranchIf is taken unless is_else is set
  abbrev plainly : Word → ℕ → Bool
  plainly c e = eqb e 0

  abbrev digits : Meaning Word
  digits = on_words digits1 digits2 digits3 digits4 digits5 plainly

  at : List (List ℕ) → ℕ → Point Word
  at recs n = steps_to digits (flat recs) (start false) n

  -- list b does not reach its end in at most n steps, or has another word in Ret there than list a after n
  told : (a b : List (List ℕ)) (n : ℕ) → EndsIn digits (flat a) (start false) n (at a n).state
      → ((k : ℕ) → k < n + 1 → ended (flat b) (at b k) ≡ true → ((at a n).state.reg ret).number ≡ ((at b k).state.reg ret).number → ⊥)
      → RunsKeepUp s (flat a) (flat b) → ⊥
  unfolding at
  told a b n ends other h =
      let k = h digits1 digits2 digits3 digits4 digits5 plainly (start false) n (at a n).state ends in
      other k.steps (omega (arith, k.at_most)) k.ends.reached
      (ap (λ (w : Word). w.number) (k.equal.named ret (omega arith) (omega arith)) ∙ ap (λ (st : State Word). (st.reg ret).number) (sym k.ends.state))

  pub branches_told : BranchesToldFor s
  unfolding at word word_of start digits1 digits2 digits3 digits4 digits5 record_at effect is_label label_of last_below jumps target step ended onward steps_to
  branches_told =
      record {
        by_a_step = told [] (nop ∷ []) 0 (record { reached = refl; not_before = λ k l. absurd (omega arith); state = refl }) one_more;
        by_no_end = told (end ∷ []) (label 7 ∷ branch 7 ∷ []) 1 (record { reached = refl; not_before = before_end; state = refl }) no_end;
        by_word = told (uni 1 ret 0 ∷ []) (uni 2 ret 0 ∷ []) 1 (record { reached = refl; not_before = before_uni; state = refl }) other_word;
        by_else =
            told (branch_if 0 7 0 ∷ uni 1 ret 0 ∷ label 7 ∷ []) (branch_if 0 7 1 ∷ uni 1 ret 0 ∷ label 7 ∷ []) 2
            (record { reached = refl; not_before = before_label; state = refl }) longer;
      }
    where
      Ends : List (List ℕ) → ℕ → Type 0
      Ends recs k = ended (flat recs) (at recs k) ≡ true

      no : {P : Type 0} → false ≡ true → P
      no h = clash (cc)

      one_more : (k : ℕ) → k < 1 → Ends (nop ∷ []) k → 20 ≡ ((at (nop ∷ []) k).state.reg ret).number → ⊥
      one_more zero l h e = no h
      one_more (suc k) l h e = omega arith

      before_end : (k : ℕ) → k < 1 → ended (flat (end ∷ [])) (at (end ∷ []) k) ≡ false
      before_end zero l = refl
      before_end (suc k) l = absurd (omega arith)

      no_end : (k : ℕ) → k < 2 → Ends (label 7 ∷ branch 7 ∷ []) k → 20 ≡ ((at (label 7 ∷ branch 7 ∷ []) k).state.reg ret).number → ⊥
      no_end zero l h e = no h
      no_end (suc zero) l h e = no h
      no_end (suc (suc k)) l h e = omega arith

      before_uni : (k : ℕ) → k < 1 → ended (flat (uni 1 ret 0 ∷ [])) (at (uni 1 ret 0 ∷ []) k) ≡ false
      before_uni zero l = refl
      before_uni (suc k) l = absurd (omega arith)

      other_word : (k : ℕ) → k < 2 → Ends (uni 2 ret 0 ∷ []) k → 110 ≡ ((at (uni 2 ret 0 ∷ []) k).state.reg ret).number → ⊥
      other_word zero l h e = no h
      other_word (suc zero) l h e = two_words e
        where
          two_words : ◌≡◌ {A = ℕ} 110 210 → ⊥
          two_words q = omega arith
      other_word (suc (suc k)) l h e = omega arith

      before_label : (k : ℕ) → k < 2 → ended (flat (branch_if 0 7 0 ∷ uni 1 ret 0 ∷ label 7 ∷ [])) (at (branch_if 0 7 0 ∷ uni 1 ret 0 ∷ label 7 ∷ []) k) ≡ false
      before_label zero l = refl
      before_label (suc zero) l = refl
      before_label (suc (suc k)) l = absurd (omega arith)

      longer : (k : ℕ) → k < 3 → Ends (branch_if 0 7 1 ∷ uni 1 ret 0 ∷ label 7 ∷ []) k
          → 20 ≡ ((at (branch_if 0 7 1 ∷ uni 1 ret 0 ∷ label 7 ∷ []) k).state.reg ret).number → ⊥
      longer zero l h e = no h
      longer (suc zero) l h e = no h
      longer (suc (suc zero)) l h e = no h
      longer (suc (suc (suc k))) l h e = omega arith
