-- `mir::rename::rename` meets its contract: the arm of Call and Label is the case that forgets.
use borrow.Author.Rules.{rules}
use mathlib.Core.Logic.{◌⊎◌, inl, inr, ⊎_elim}
use Prim.Native.Nat.{ℕ}
use mathlib.Core.Bool.{or-true}
use borrow.Author.Tests.{eq-eqb, ne_eqb}
use mathlib.Core.Path.{◌≡◌, refl}
use native.Mathlib.Nat.{add-zero}
use lib.ListN.{get_or}
use Rattle.mir.specs.Renaming.{renamed}
use Rattle.mir.specs.Shapes.{call, label}
use Rattle.mir.proofs.Renaming.{none_forgets}
use Rattle.mir.proofs.rename.rename.Goals as goal

-- the kind in hand is the record's
told : {k n a b : ℕ} → k ≡ n → (k ≡ a) ⊎ (k ≡ b) → (n ≡ a) ⊎ (n ≡ b)
told e h = rw e at h

pub returns-in-12 : goal.returns-in-12
unfolding renamed
returns-in-12 c =
    let k = get_or c.args.rec.now 0 0 in
    record {
      regs = ⊎_elim (λ (e : k ≡ call). simp (eq-eqb k call e)) (λ (e : k ≡ label). simp (eq-eqb k label e, or-true)) (told c.requires.kind_is c.in-12.is);
      next = rw (none_forgets c.args.rec.now (told c.requires.kind_is c.in-12.is), add-zero) refl;
    }

pub returns-in_default : goal.returns-in_default
unfolding renamed
returns-in_default c =
    let other : (c.args.kind ≡ call) ⊎ (c.args.kind ≡ label) → ⊥ = search rules in
    let neither : (get_or c.args.rec.now 0 0 ≡ call) ⊎ (get_or c.args.rec.now 0 0 ≡ label) → ⊥ = rw c.requires.kind_is at other in
    record {
      regs = simp (ne_eqb _ _ (λ e. neither (inl e)), ne_eqb _ _ (λ e. neither (inr e))) c.produce_all.ensures.regs;
      next = c.produce_all.ensures.next;
    }
