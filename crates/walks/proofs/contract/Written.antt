-- What becomes of a record in colours, kind by kind, told of the record as it was.
-- It has the kind that it had; a Mov's two words are known, and what is saved goes where it went.
use Rattle.std.specs.Prelude.{Option}
use Prim.Native.Nat.{ℕ}
use mathlib.Core.Bool.{Bool, cond, ◌&&◌, ◌||◌, not}
use mathlib.Core.List.{List}
use mathlib.Core.Logic.{◌⊎◌, inl, inr, ⊎_elim}
use mathlib.Core.Path.{◌≡◌, sym, ap, ◌∙◌}
use lib.Dec.{eqb}
use lib.ListN.{length, get_or}
use Rattle.mir.specs.Records.{is_gen, word_at}
use Rattle.passes.specs.declared.alloc.Outcome.{Outcome}
use Rattle.passes.specs.declared.alloc.Outcome.TheVariants.{Kept, Nop, Load, Move, Save}
use Rattle.passes.specs.declared.symbol.Loc.{Loc}
use Rattle.passes.specs.Color.{loc_of, partner, is_member, source_word}
use Rattle.passes.specs.Contract.{is_beyond, outcome_of}
use Rattle.walks.specs.Walks.{rewritten}
use Rattle.walks.proofs.contract.Outcomes.{outcome_nop, outcome_mov, outcome_load, outcome_save, outcome_load_complex, outcome_save_complex, outcome_rest}
use Rattle.walks.proofs.contract.Partner.{written_kind, written_mov, save_loc}

module _ (mark : ℕ) (ms : List Loc) (found : Bool) (regs : List (Option ℕ)) (n : ℕ) (cs rec : List ℕ) (len : length rec ≡ 8)
    {kind : ℕ} (in_hand : kind ≡ word_at rec 0) where
  abbrev out : List ℕ
  out = rewritten regs n cs rec

  was : word_at out 0 ≡ kind
  was = written_kind regs n cs rec len ∙ sym in_hand

  abbrev save_if : (Loc → Bool) → Outcome
  save_if beyond = cond (beyond (loc_of rec)) Save Kept

  abbrev beyond : Loc → Bool
  beyond l = is_beyond mark l && not (is_member l ms)

  abbrev beyond_both : Loc → Bool
  beyond_both l = is_beyond mark l && not (is_member l ms || is_member (partner l) ms)

  pub nop_goes : kind ≡ 0 → Nop ≡ outcome_of mark ms found out
  nop_goes e = sym (outcome_nop mark ms found out (was ∙ e))

  pub load_goes : (kind ≡ 5) ⊎ (kind ≡ 7) → cond found Load Kept ≡ outcome_of mark ms found out
  load_goes h =
      sym
      (⊎_elim (λ (e : kind ≡ 5). outcome_load mark ms found out (was ∙ e)) (λ (e : kind ≡ 7). outcome_load_complex mark ms found out (was ∙ e)) h)

  pub mov_goes : kind ≡ 4
      → cond (eqb (cond (is_gen (word_at rec 1)) (get_or cs n 0) (word_at rec 1)) (source_word regs cs (word_at rec 2))) Move Kept
      ≡ outcome_of mark ms found out
  mov_goes e =
      let words = written_mov regs n cs rec len (sym in_hand ∙ e) in
      sym (rw (words.0, words.1) at (outcome_mov mark ms found out (was ∙ e)))

  pub save_goes : kind ≡ 6 → save_if beyond ≡ outcome_of mark ms found out
  save_goes e =
      sym
      (outcome_save mark ms found out (was ∙ e)
      ∙ ap (λ l. cond (beyond l) Save Kept) (save_loc regs n cs rec len (inl (sym in_hand ∙ e))))

  pub save_complex_goes : kind ≡ 8 → save_if beyond_both ≡ outcome_of mark ms found out
  save_complex_goes e =
      sym
      (outcome_save_complex mark ms found out (was ∙ e)
      ∙ ap (λ l. cond (beyond_both l) Save Kept) (save_loc regs n cs rec len (inr (sym in_hand ∙ e))))

  pub rest_stays : (kind ≡ 0 → ⊥) → (kind ≡ 5 → ⊥) → (kind ≡ 7 → ⊥) → (kind ≡ 4 → ⊥) → (kind ≡ 6 → ⊥) → (kind ≡ 8 → ⊥)
      → Kept ≡ outcome_of mark ms found out
  rest_stays n0 n5 n7 n4 n6 n8 = sym (outcome_rest mark ms found out (no n0) (no n5) (no n7) (no n4) (no n6) (no n8))
    where
      no : {k : ℕ} → (kind ≡ k → ⊥) → word_at out 0 ≡ k → ⊥
      no h e = h (sym was ∙ e)
