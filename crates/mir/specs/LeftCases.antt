-- Public: what a lent slice holds: words written from its start on where a list passes, all of them or none, and otherwise nothing.
use Rattle.std.specs.Prelude.{◌≡◌, ℕ, [], ◌∷◌}
use Rattle.mir.specs.Answers.{Passed, Refused, left}

pub record LeftCases : Type 0 where
  pub starts : left {Item = ℕ} Passed (7 ∷ []) (1 ∷ 2 ∷ 3 ∷ []) ≡ 7 ∷ 2 ∷ 3 ∷ []
  pub whole : left {Item = ℕ} Passed (7 ∷ 8 ∷ []) (1 ∷ 2 ∷ []) ≡ 7 ∷ 8 ∷ []
  pub none : left {Item = ℕ} Passed [] (1 ∷ 2 ∷ []) ≡ 1 ∷ 2 ∷ []
  pub refused : left {Item = ℕ} (Refused 4 0) (7 ∷ []) (1 ∷ 2 ∷ []) ≡ 1 ∷ 2 ∷ []
