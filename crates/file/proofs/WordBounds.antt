-- Every word of a reduced list fits 32 bits, so that it can be read back from its bytes.
-- The reduced list passes question 6, and no field's largest value is above 4,294,967,295.
use Prim.Native.Nat.{ℕ, zero, suc, ◌+◌, ◌*◌, ◌/◌, ◌%◌, ◌<◌, ◌≤◌, ◌^◌}
use mathlib.Core.Bool.{true}
use mathlib.Core.List.{List, [], ◌∷◌}
use mathlib.Core.Path.{◌≡◌, ap, ◌∙◌}
use native.Mathlib.Omega.{arith}
use lib.Dec.{leb}
use lib.ListN.{length, get_or, drop}
use lib.Seq.{get_or-take, get_or-drop}
use borrow.Author.Tests.{leb-true}
use Rattle.allocator.proofs.Promise.{reduced_words}
use Rattle.mir.specs.declared.config.Settings.{Settings}
use Rattle.std.specs.List.{list_all}
use Rattle.mir.specs.Folds.{all_below}
use Rattle.mir.specs.Questions.{word_fits, words_fit, fields_fit}
use Rattle.mir.specs.Records.{record_at, word_at}
use Rattle.mir.specs.Shapes.{any, shape_of, shape_for}
use Rattle.mir.proofs.Folds.{all_at}
use Rattle.mir.proofs.Passing.{shape_passes}
use Rattle.mir.proofs.Renaming.{and_both}
use Rattle.mir.proofs.Shapes.{each_from, by_kind, truth}
use Rattle.passes.specs.Contract.{reduced}
use Rattle.passes.specs.Machine.{Passing}
use Rattle.theorems.proofs.Reduced.{reduced_passes}

-- the largest values
each_small : (ws : List ℕ) (p : ℕ) → list_all (λ w. leb w any) ws ≡ true → get_or ws p 0 ≤ any
each_small [] p e = omega arith
each_small (w ∷ ws) zero e = leb-true w any (and_both (leb w any) _ e).0
each_small (w ∷ ws) (suc p) e = each_small ws p (and_both (leb w any) _ e).1

most_small : (k p : ℕ) → get_or (shape_of k).most p 0 ≤ any
unfolding each_from
most_small k p = each_small (shape_of k).most p (truth _ (by_kind (λ n s. list_all (λ w. leb w any) s.most) tt (λ n. tt) k))

record_small : (table rec : List ℕ) (p : ℕ) → fields_fit table rec ≡ true → p < 8 → get_or rec p 0 ≤ any
unfolding fields_fit words_fit
record_small table rec p h l =
    let q = (and_both (all_below 8 (word_fits rec (shape_for rec).most)) _ h).0 in
    let f = leb-true (get_or rec p 0) (get_or (shape_for rec).most p 0) (all_at (word_fits rec (shape_for rec).most) 8 p q l) in
    omega (arith, f, most_small (word_at rec 0) p)

word_of : (list : List ℕ) (i p : ℕ) → p < 8 → get_or (record_at list i) p 0 ≡ get_or list (i * 8 + p) 0
unfolding record_at
word_of list i p l = get_or-take 8 (drop (i * 8) list) p 0 l ∙ get_or-drop (i * 8) list p 0

pub reduced_small : (s : Settings) (list table : List ℕ) → Passing s list table → (k : ℕ) → k < length (reduced s list table)
    → get_or (reduced s list table) k 0 < 2 ^ 32
reduced_small s list table h k l =
    let R = reduced s list table in
    let p = reduced_passes s list table h (k / 8) (omega (arith, reduced_words s list table)) in
    let f = record_small table (record_at R (k / 8)) (k % 8) (shape_passes table s.count_regs (record_at R (k / 8)) p).fields (omega arith) in
    let e : k / 8 * 8 + k % 8 ≡ k = omega arith in
    omega (arith, f, word_of R (k / 8) (k % 8) (omega arith), ap (λ n. get_or R n 0) e)
