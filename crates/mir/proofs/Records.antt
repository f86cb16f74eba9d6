-- The words of a record are the list's words from eight times its index on.
-- By one law on the words from any place, any number of them.
use Prim.Native.Nat.{ℕ, zero, suc, ◌+◌, ◌*◌, ◌≤◌, ◌<◌}
use mathlib.Core.Path.{◌≡◌, refl}
use mathlib.Core.List.{List, [], ◌∷◌}
use native.Mathlib.Omega.{arith}
use native.Mathlib.Nat.{add-zero, add-suc, suc-add}
use lib.ListN.{length, get_or, take, drop}
use lib.Seq.{drop-cons}
use Rattle.std.proofs.lemmas.List.{drop-drop}
use Rattle.std.specs.Simd.{first_chunks}
use Rattle.mir.specs.Records.{record_at, records}

-- f 0, f 1, and so on, n of them
abbrev pub tabulate : ℕ → (ℕ → ℕ) → List ℕ
tabulate zero f = []
tabulate (suc n) f = f zero ∷ tabulate n (λ k. f (suc k))

pub words_at : (l : List ℕ) (n b : ℕ) → b + n ≤ length l → take n (drop b l) ≡ tabulate n (λ p. get_or l (b + p) 0)
words_at l zero b h = refl
words_at l (suc n) b h =
    let here : b < length l = omega arith in
    rw (drop-cons l b 0 here, words_at l n (suc b) (omega arith))
    (simp (add-zero, add-suc, suc-add))

-- ---- the chunks of eight words

-- chunk i of the first k of n words each
pub chunk_is : (n k i : ℕ) (l : List ℕ) → i < k → get_or (first_chunks n k l) i [] ≡ take n (drop (i * n) l)
chunk_is n zero i l h = search arith
chunk_is n (suc k) zero l h =
    let e : 0 * n ≡ 0 = omega arith in
    rw e
chunk_is n (suc k) (suc i) l h =
    let e : suc i * n ≡ n + i * n = omega arith in
    rw (e, chunk_is n k i (drop n l) (omega arith), drop-drop)

-- the records of a list, by the list's own count
pub rows_are : (list : List ℕ) (rows : List (List ℕ)) → length rows ≡ records list
    → ((i : ℕ) → i < length rows → (i < records list) × (get_or rows i [] ≡ record_at list i))
    → (i : ℕ) → i < records list → get_or rows i [] ≡ record_at list i
rows_are list rows len each i l = (each i (rw len l)).1
