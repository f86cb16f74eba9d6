-- What a list that passes lets a walk do with record i: no sum of a walk's turn goes past its words.
-- By the questions that the record passed.
use Prim.Native.Nat.{ℕ, ◌+◌, ◌*◌, ◌/◌, ◌<◌, ◌≤◌}
use mathlib.Core.Bool.{true}
use mathlib.Core.List.{List}
use native.Mathlib.Omega.{arith}
use lib.ListN.{length}
use Rattle.mir.specs.declared.config.Settings.{Settings}
use Rattle.mir.specs.declared.rename.Renaming.{Renaming}
use Rattle.mir.proofs.Passing.{ListPasses, list_passes}
use Rattle.mir.proofs.Renaming.{Walked, statics_two}
use Rattle.passes.specs.Machine.{Passing}
use Rattle.lives.specs.Lives.{Passes}

pub passing_list : (s : Settings) (list table : List ℕ) → Passing s list table → ListPasses s list table
unfolding Passing
passing_list s list table h = list_passes true s list table h

-- record i of a list that passes
module _ (list : List ℕ) (h : Passes list) (i : ℕ) (l : i < length list / 8) where
  p : ListPasses h.0 list h.1
  p = passing_list h.0 list h.1 h.2

  pub few_words : length list ≤ 524288
  few_words = p.sized.small

  pub few_statics : {r : Renaming} → Walked list i r → r.statics + 2 ≤ (length list / 8) * 2
  few_statics w = omega (arith, w.statics_are, statics_two list i)

  -- what no sum of a turn goes past
  pub record Turn (statics : ℕ) : Type 0 where
    pub words : length list ≤ 524288
    pub few : statics + 2 ≤ (length list / 8) * 2

  pub turn : {r : Renaming} → Walked list i r → Turn r.statics
  turn w = record { words = few_words; few = few_statics w }
