-- A slice that starts with words, all else being what it held: reading and writing among the words, one word more, more
-- words over fewer.
-- By the laws of `set`, `take` and `drop` at a seam.
use Prim.Native.Nat.{ℕ, suc, ◌+◌, ◌-◌, ◌<◌, ◌≤◌}
use mathlib.Core.List.{List, [], ◌∷◌, ◌++◌, append_assoc}
use mathlib.Core.Path.{◌≡◌, refl, sym, ap, subst, ◌∙◌}
use native.Mathlib.Numerals.{add-one}
use native.Mathlib.Omega.{arith}
use lib.ListN.{length, get_or, set, take, drop, length-append, length-drop, get_or-append}
use lib.Seq.{drop-cons, append_snoc, set_at, set-append_left, drop-append-add}
use lib.Seq.{take-append_seam, drop-append_seam, drop-drop}
use borrow.Rule.Slice.PartMut.{put_mid}
use Rattle.mir.specs.Answers.{over}

pub over_length : (ws old : List ℕ) → length ws ≤ length old → length (over ws old) ≡ length old
over_length ws old h =
    length-append ws (drop (length ws) old) ∙ (ap (λ k. length ws + k) (length-drop (length ws) old) ∙ omega arith)

pub over_get : (ws old : List ℕ) (k d : ℕ) → k < length ws → get_or (over ws old) k d ≡ get_or ws k d
over_get ws old k d h = get_or-append ws (drop (length ws) old) d k h

-- a word among those written
pub over_set : (ws old : List ℕ) (k v : ℕ) → k < length ws → set (over ws old) k v ≡ over (set ws k v) old
over_set ws old k v h =
    set-append_left ws (drop (length ws) old) k v h ∙ ap (λ n. set ws k v ++ drop n old) (sym (lib.ListN.length-set ws k v))

-- the next word
pub over_next : (ws old : List ℕ) (v : ℕ) → length ws < length old → set (over ws old) (length ws) v ≡ over (ws ++ v ∷ []) old
over_next ws old v h =
    ap (λ r. set (ws ++ r) (length ws) v) (drop-cons old (length ws) 0 h)
    ∙ (set_at ws (get_or old (length ws) 0) (drop (suc (length ws)) old) v (length ws) refl
    ∙ (sym (append_snoc ws v (drop (suc (length ws)) old))
    ∙ ap (λ n. (ws ++ v ∷ []) ++ drop n old) (sym (length-append ws (v ∷ []) ∙ add-one (length ws)))))

-- more words over fewer
pub over_over : (ws vs old : List ℕ) → length vs ≤ length ws → over ws (over vs old) ≡ over ws old
over_over ws vs old h =
    ap (λ r. ws ++ r) (subst (λ n. drop n (vs ++ drop (length vs) old) ≡ drop n old) e (drop-append-add vs (drop (length vs) old) k ∙ drop-drop k (length vs) old))
  where
    k : ℕ
    k = length ws - length vs

    e : length vs + k ≡ length ws
    e = omega arith

pub over_take : (ws old : List ℕ) → take (length ws) (over ws old) ≡ ws
over_take ws old = take-append_seam ws (drop (length ws) old)

-- words put in after the first ones
pub over_after : (ws vs old : List ℕ) → ws ++ over vs (drop (length ws) old) ≡ over (ws ++ vs) old
over_after ws vs old =
    sym (append_assoc ws vs (drop (length vs) (drop (length ws) old)))
    ∙ ap (λ r. (ws ++ vs) ++ r) (drop-drop (length vs) (length ws) old ∙ ap (λ n. drop n old) (sym (length-append ws vs)))

-- and so in a part that begins after the first ones
pub over_part : (ws vs old : List ℕ) (a k : ℕ) → a ≡ length ws → k ≡ length vs → put_mid a k (over ws old) vs ≡ over (ws ++ vs) old
over_part ws vs old a k e f =
    rw (e, f)
    (ap (λ l. l ++ (vs ++ drop (length vs) (drop (length ws) (over ws old)))) (over_take ws old)
    ∙ (ap (λ l. ws ++ (vs ++ drop (length vs) l)) (drop-append_seam ws (drop (length ws) old)) ∙ over_after ws vs old))
