-- Words read from bytes and put into them: how many, one more, and read back.
-- By induction over the words; a word below 2 ^ 32 is the sum of its four bytes.
use Prim.Native.Nat.{ℕ, zero, suc, ◌+◌, ◌*◌, ◌/◌, ◌%◌, ◌^◌, ◌<◌, ◌≤◌}
use mathlib.Core.List.{List, [], ◌∷◌, ◌++◌, append_assoc}
use mathlib.Core.Path.{◌≡◌, refl, sym, ap, ◌∙◌}
use native.Mathlib.Nat.{div-add-mod', div-div-eq-div-mul, mod-eq_of_lt}
use native.Mathlib.Numerals.{add-one}
use native.Mathlib.Omega.{arith}
use lib.ListN.{length, get_or, set, take, drop, length-append}
use lib.Seq.{sets, sets-eq, length-take-le, take-suc, take_at, take-append_seam, drop-append-add, drop-drop, get_or-append_seam, get_or-append-add}
use Rattle.mir.specs.Answers.{over}
use Rattle.mir.proofs.Over.{over_length, over_next, over_over}
use Rattle.file.specs.File.{word_in, words_in, bytes_of_word, bytes_of}

-- ---- reading

pub words_length : (bytes : List ℕ) (k n : ℕ) → length (words_in bytes k n) ≡ n
unfolding words_in
words_length bytes k zero = refl
words_length bytes k (suc n) = ap suc (words_length bytes (suc k) n)

words_suc : (bytes : List ℕ) (k n : ℕ) → words_in bytes k (suc n) ≡ words_in bytes k n ++ word_in bytes (k + n) ∷ []
unfolding words_in
words_suc bytes k zero =
    let e : k + 0 ≡ k = omega arith in
    cc
words_suc bytes k (suc n) =
    let e : k + suc n ≡ suc k + n = omega arith in
    cc (words_suc bytes (suc k) n)

-- the next word into a slice that starts with the words before it
pub words_next : (bytes : List ℕ) (k n : ℕ) (old : List ℕ) {out : List ℕ} {w : ℕ} → out ≡ over (words_in bytes k n) old → n < length old
    → w ≡ word_in bytes (k + n) → set out n w ≡ over (words_in bytes k (n + 1)) old
words_next bytes k n old e h r =
    let len = words_length bytes k n in
    cc (over_next (words_in bytes k n) old (word_in bytes (k + n)) (omega arith), words_suc bytes k n, add-one n)

-- words that stand at the start of the space that they were read to
pub record Read (words : List ℕ) (n : ℕ) (space : List ℕ) : Type 0 where
  pub are : take n space ≡ words
  pub count : length (take n space) ≡ n

pub read : (bytes : List ℕ) (k n : ℕ) (old : List ℕ) {words new : List ℕ} → words_in bytes k n ≡ words → new ≡ over (words_in bytes k n) old → Read words n new
read bytes k n old e o =
    let len = words_length bytes k n in
    let t = take_at (words_in bytes k n) (drop (length (words_in bytes k n)) old) n len in
    record { are = cc; count = cc }

-- ---- writing

bytes_length : (ws : List ℕ) → length (bytes_of ws) ≡ length ws * 4
unfolding bytes_of
bytes_length [] = refl
bytes_length (w ∷ ws) = omega (arith, bytes_length ws)

bytes_append : (vs ws : List ℕ) → bytes_of (vs ++ ws) ≡ bytes_of vs ++ bytes_of ws
unfolding bytes_of
bytes_append [] ws = refl
bytes_append (v ∷ vs) ws = cc (bytes_append vs ws)

-- a run of stores after what a slice starts with
over_sets : (vs ws old : List ℕ) → length ws + length vs ≤ length old → sets (over ws old) (length ws) vs ≡ over (ws ++ vs) old
over_sets vs ws old h =
    sets-eq vs (over ws old) (length ws) (omega (arith, over_length ws old (omega arith)))
    ∙ rw (take-append_seam, drop-append-add, drop-drop, length-append)

-- the first word and words taken after it
module _ (f : ℕ) (ws : List ℕ) (j : ℕ) where
  pub taken_length : j ≤ length ws → length (bytes_of (f ∷ take j ws)) ≡ 4 + j * 4
  taken_length h = omega (arith, bytes_length (f ∷ take j ws), length-take-le j ws h)

  -- the next word into a slice that starts with those before it
  pub bytes_next : (old : List ℕ) {out : List ℕ} → out ≡ over (bytes_of (f ∷ take j ws)) old → j < length ws → 4 + length ws * 4 ≤ length old
      → sets out (4 + j * 4) (bytes_of_word (get_or ws j 0)) ≡ over (bytes_of (f ∷ take (j + 1) ws)) old
  unfolding bytes_of
  bytes_next old e h l =
      let w = get_or ws j 0 in
      let len = taken_length (omega arith) in
      cc (over_sets (bytes_of_word w) (bytes_of (f ∷ take j ws)) old (omega arith), bytes_append (f ∷ take j ws) (w ∷ []), add-one j, take-suc ws j 0 h)

-- a slice that the first word was put into: more words go over it as over what it held
module _ (f : ℕ) (old : List ℕ) {out : List ℕ} (e : out ≡ sets old 0 (bytes_of_word f)) (h : 4 ≤ length old) where
  pub over_first : (ws : List ℕ) → over (bytes_of (f ∷ ws)) out ≡ over (bytes_of (f ∷ ws)) old
  unfolding bytes_of
  over_first ws = cc (sets-eq (bytes_of_word f) old 0 h, over_over (bytes_of (f ∷ ws)) (bytes_of_word f) old (omega arith))

  pub first_over : out ≡ over (bytes_of (f ∷ [])) out
  unfolding bytes_of
  first_over = cc (sets-eq (bytes_of_word f) old 0 h, over_first [])

-- ---- words put into bytes and read back

-- the four bytes of a word make it up
bytes_sum : (w : ℕ) → w < 2 ^ 32 → w % 2 ^ 8 + w / 2 ^ 8 % 2 ^ 8 * 2 ^ 8 + w / 2 ^ 16 % 2 ^ 8 * 2 ^ 16 + w / 2 ^ 24 % 2 ^ 8 * 2 ^ 24 ≡ w
bytes_sum w h =
    linear _ _ _ _ _ _ _ _ (div-add-mod' w (2 ^ 8))
    (rw (div-div-eq-div-mul w (2 ^ 8) (2 ^ 8)) at (div-add-mod' (w / 2 ^ 8) (2 ^ 8)))
    (rw (div-div-eq-div-mul w (2 ^ 16) (2 ^ 8)) at (div-add-mod' (w / 2 ^ 16) (2 ^ 8)))
    (mod-eq_of_lt (omega arith))
  where
    linear : (w q r s a b c d : ℕ) → q * 2 ^ 8 + a ≡ w → r * 2 ^ 8 + b ≡ q → s * 2 ^ 8 + c ≡ r → d ≡ s → a + b * 2 ^ 8 + c * 2 ^ 16 + d * 2 ^ 24 ≡ w
    linear w q r s a b c d e f g h = omega arith

word_after : (front rest : List ℕ) (k w : ℕ) → length front ≡ k * 4 → w < 2 ^ 32 → word_in (front ++ (bytes_of_word w ++ rest)) k ≡ w
unfolding word_in
word_after front rest k w e h = rw (← e) (simp (get_or-append_seam, get_or-append-add) (bytes_sum w h))

cons_eq : {a b : ℕ} {xs ys : List ℕ} → a ≡ b → xs ≡ ys → a ∷ xs ≡ b ∷ ys
cons_eq p q = cc

-- words that stand after `k` others
words_after : (ws front rest : List ℕ) (k : ℕ) → length front ≡ k * 4 → ((i : ℕ) → i < length ws → get_or ws i 0 < 2 ^ 32)
    → words_in (front ++ (bytes_of ws ++ rest)) k (length ws) ≡ ws
unfolding words_in bytes_of
words_after [] front rest k e h = refl
words_after (w ∷ ws) front rest k e h =
    let tail = bytes_of ws ++ rest in
    let first : word_in (front ++ (bytes_of_word w ++ tail)) k ≡ w = word_after front tail k w e (h 0 (omega arith)) in
    let size : length (front ++ bytes_of_word w) ≡ suc k * 4 = omega (arith, e, length-append front (bytes_of_word w)) in
    let others : words_in ((front ++ bytes_of_word w) ++ tail) (suc k) (length ws) ≡ ws =
    words_after ws (front ++ bytes_of_word w) rest (suc k) size (λ i l. h (suc i) (omega arith)) in
    let joined : (front ++ bytes_of_word w) ++ tail ≡ front ++ (bytes_of_word w ++ tail) = append_assoc front (bytes_of_word w) tail in
    let there : words_in (front ++ (bytes_of_word w ++ tail)) (suc k) (length ws) ≡ ws =
    ap (λ bytes. words_in bytes (suc k) (length ws)) (sym joined) ∙ others in
    cons_eq first there

-- words that stand after a first one
pub words_back : (f : ℕ) (ws rest : List ℕ) → ((k : ℕ) → k < length ws → get_or ws k 0 < 2 ^ 32)
    → words_in (bytes_of (f ∷ ws) ++ rest) 1 (length ws) ≡ ws
unfolding bytes_of
words_back f ws rest h = words_after ws (bytes_of_word f) rest 1 refl h
