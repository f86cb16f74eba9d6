-- A word that is read from bytes with four zeros behind them is the first word of these bytes.
use Rattle.std.proofs.Common.{◌≡◌, ℕ, List, [], ◌∷◌, ◌++◌, length, Some, None, IfSome, ◌∙◌, arith, subst}
use Rattle.std.specs.Int.{w32, from_le_bytes}
use Rattle.std.specs.Fmt.{option_append}
use Rattle.std.specs.Prelude.{Option}
use Rattle.std.specs.Io.KnownBytes.{Consumes}
use Rattle.file.specs.File.{word_in}

first_word : (xs ys : List ℕ) (a b c d : ℕ) → xs ++ 0 ∷ 0 ∷ 0 ∷ 0 ∷ [] ≡ a ∷ b ∷ c ∷ d ∷ ys
    → from_le_bytes w32 (a ∷ b ∷ c ∷ d ∷ []) ≡ word_in xs 0
unfolding word_in
first_word [] ys a b c d e = cc
first_word (x ∷ []) ys a b c d e = cc
first_word (x ∷ y ∷ []) ys a b c d e = cc
first_word (x ∷ y ∷ z ∷ []) ys a b c d e = cc
first_word (x ∷ y ∷ z ∷ w ∷ xs) ys a b c d e = cc

consumed : (known rest : Option (List ℕ)) (bs : List ℕ) (n : ℕ) → Consumes (option_append known (Some (0 ∷ 0 ∷ 0 ∷ 0 ∷ []))) rest bs
    → length bs ≡ 4 → n ≡ from_le_bytes w32 bs → IfSome known (λ xs. n ≡ word_in xs 0)
consumed None rest bs n e l f = tt
consumed (Some xs) None bs n e l f = absurd e
consumed (Some xs) (Some ys) (a ∷ b ∷ c ∷ d ∷ []) n e l f = f ∙ first_word xs ys a b c d e
consumed (Some xs) (Some ys) [] n e l f = cc
consumed (Some xs) (Some ys) (a ∷ []) n e l f = cc
consumed (Some xs) (Some ys) (a ∷ b ∷ []) n e l f = cc
consumed (Some xs) (Some ys) (a ∷ b ∷ c ∷ []) n e l f = cc
consumed (Some xs) (Some ys) (a ∷ b ∷ c ∷ d ∷ x ∷ bs) n e l f = absurd (omega (arith, l))

pub padded : (known whole rest : Option (List ℕ)) (bs : List ℕ) (n : ℕ) → whole ≡ option_append known (Some (0 ∷ 0 ∷ 0 ∷ 0 ∷ []))
    → Consumes whole rest bs → length bs ≡ 4 → n ≡ from_le_bytes w32 bs → IfSome known (λ xs. n ≡ word_in xs 0)
padded known whole rest bs n p e l f =
    let P : Option (List ℕ) → Type 0 = λ k. Consumes k rest bs in
    consumed known rest bs n (subst P p e) l f
