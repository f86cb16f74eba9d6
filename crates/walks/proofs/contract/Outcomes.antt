-- What becomes of a record, kind by kind.
-- The definition as a function of kind, action, location and two words; at a kind it computes.
use Prim.Native.Nat.{ℕ}
use mathlib.Core.Bool.{Bool, true, false, cond, ◌&&◌, ◌||◌, not}
use mathlib.Core.List.{List}
use mathlib.Core.Path.{◌≡◌, refl, ap}
use lib.Dec.{T, eqb}
use borrow.Author.Tests.{ne_eqb}
use Rattle.mir.specs.declared.shape.Action.{Action}
use Rattle.mir.specs.Records.{word_at}
use Rattle.mir.specs.Shapes.{shape_of, nop, mov, save, save_complex}
use Rattle.mir.proofs.Shapes.{each_from, by_kind}
use Rattle.passes.specs.declared.alloc.Outcome.{Outcome}
use Rattle.passes.specs.declared.alloc.Outcome.TheVariants.{Kept, Nop, Load, Move, Save}
use Rattle.passes.specs.declared.symbol.Loc.{Loc}
use Rattle.passes.specs.Color.{loc_of, partner, is_member}
use Rattle.passes.specs.Contract.{is_load, is_beyond, outcome_of}

-- only kinds 5 and 7 are loads
no_load : (k : ℕ) → (k ≡ 5 → ⊥) → (k ≡ 7 → ⊥) → is_load (shape_of k).action ≡ false
unfolding each_from
no_load k f g = go (is_load (shape_of k).action) (by_kind (λ n s. cond (is_load s.action) (eqb n 5 || eqb n 7) true) tt (λ n. tt) k)
  where
    go : (b : Bool) → T (cond b (eqb k 5 || eqb k 7) true) → b ≡ false
    go false t = refl
    go true t =
        let z : T false = rw (ne_eqb k 5 f, ne_eqb k 7 g) at t in
        absurd z

module _ (mark : ℕ) (ms : List Loc) (found : Bool) (rec : List ℕ) where
  abbrev beyond : Loc → Bool
  beyond l = is_beyond mark l && not (is_member l ms)

  abbrev beyond_either : Loc → Bool
  beyond_either l = is_beyond mark l && not (is_member l ms || is_member (partner l) ms)

  abbrev by : ℕ → Action → Loc → Bool → Outcome
  by kind action l same =
      cond (eqb kind nop) Nop
      (cond (is_load action && found) Load
      (cond (eqb kind mov && same) Move
      (cond (eqb kind save && beyond l) Save
      (cond (eqb kind save_complex && beyond_either l) Save Kept))))

  at : (k : ℕ) → word_at rec 0 ≡ k → outcome_of mark ms found rec ≡ by k (shape_of k).action (loc_of rec) (eqb (word_at rec 1) (word_at rec 2))
  unfolding outcome_of
  at k e = ap (λ n. by n (shape_of n).action (loc_of rec) (eqb (word_at rec 1) (word_at rec 2))) e

  pub outcome_nop : word_at rec 0 ≡ 0 → outcome_of mark ms found rec ≡ Nop
  outcome_nop e = at 0 e

  pub outcome_mov : word_at rec 0 ≡ 4 → outcome_of mark ms found rec ≡ cond (eqb (word_at rec 1) (word_at rec 2)) Move Kept
  unfolding shape_of
  outcome_mov e = at 4 e

  pub outcome_load : word_at rec 0 ≡ 5 → outcome_of mark ms found rec ≡ cond found Load Kept
  unfolding shape_of
  outcome_load e = at 5 e

  pub outcome_save : word_at rec 0 ≡ 6 → outcome_of mark ms found rec ≡ cond (is_beyond mark (loc_of rec) && not (is_member (loc_of rec) ms)) Save Kept
  unfolding shape_of
  outcome_save e = at 6 e

  pub outcome_load_complex : word_at rec 0 ≡ 7 → outcome_of mark ms found rec ≡ cond found Load Kept
  unfolding shape_of
  outcome_load_complex e = at 7 e

  pub outcome_save_complex : word_at rec 0 ≡ 8
      → outcome_of mark ms found rec ≡ cond (is_beyond mark (loc_of rec) && not (is_member (loc_of rec) ms || is_member (partner (loc_of rec)) ms)) Save Kept
  unfolding shape_of
  outcome_save_complex e = at 8 e

  pub outcome_rest : (word_at rec 0 ≡ 0 → ⊥) → (word_at rec 0 ≡ 5 → ⊥) → (word_at rec 0 ≡ 7 → ⊥) → (word_at rec 0 ≡ 4 → ⊥) → (word_at rec 0 ≡ 6 → ⊥) → (word_at rec 0 ≡ 8 → ⊥)
      → outcome_of mark ms found rec ≡ Kept
  unfolding outcome_of
  outcome_rest n0 n5 n7 n4 n6 n8 =
      rw (ne_eqb _ _ n0, no_load (word_at rec 0) n5 n7, ne_eqb _ _ n4, ne_eqb _ _ n6, ne_eqb _ _ n8) refl
