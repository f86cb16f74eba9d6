-- The first records of a list are those of its first words, and the first refusal among them is the list's.
-- By what is left of a part, and a part of a part; by induction on the records after them.
use Prim.Native.Nat.{ℕ, zero, suc, ◌+◌, ◌*◌, ◌-◌, ◌<◌, ◌≤◌}
use mathlib.Core.Logic.{⊎_elim}
use mathlib.Core.List.{List}
use mathlib.Core.Path.{◌≡◌, ap, ◌∙◌}
use native.Mathlib.Omega.{arith}
use lib.ListN.{take, drop}
use Rattle.std.proofs.lemmas.List.{drop-take, take-take}
use Rattle.mir.specs.Answers.{Refused}
use Rattle.mir.specs.Folds.{or_else, refused_at, first_refusal}
use Rattle.mir.specs.Records.{record_at}
use Rattle.mir.proofs.Clash.{same_or}

pub record_first : (list : List ℕ) (until i : ℕ) → i < until → record_at (take (until * 8) list) i ≡ record_at list i
unfolding record_at
record_first list until i l =
    let m = until * 8 - i * 8 in
    let e : until * 8 ≡ i * 8 + m = omega arith in
    ap (λ k. take 8 (drop (i * 8) (take k list))) e ∙ (ap (take 8) (drop-take (i * 8) m list) ∙ take-take 8 m (drop (i * 8) list) (omega arith))

pub refused_first : (by : ℕ → ℕ) (until n : ℕ) {number index : ℕ} → until ≤ n → Refused number index ≡ first_refusal by until → Refused number index ≡ first_refusal by n
unfolding first_refusal
refused_first by until zero l e =
    let same : until ≡ 0 = omega arith in
    rw same at e
refused_first by until (suc n) l e = ⊎_elim
    (λ (same : until ≡ suc n). rw same at e)
    (λ (less : until ≡ suc n → ⊥). ap (λ v. or_else v (refused_at (by n) n)) (refused_first by until n (omega (arith, less)) e)) (same_or until (suc n))
