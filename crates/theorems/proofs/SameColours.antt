-- The rule on what a two-part load reads moves no colour: whatever joins the read set at each record, the statics' colours and each
-- colour's life and location come out the same.
-- A record's choices look at the colours' state and at nothing else. By induction on the destinations and on the records.
use Rattle.std.specs.Prelude.{Option}
use Prim.Native.Nat.{ℕ, zero, suc}
use mathlib.Core.Bool.{Bool, true, false}
use mathlib.Core.List.{List, [], ◌∷◌}
use mathlib.Core.Path.{◌≡◌, refl}
use Rattle.mir.specs.Records.{is_gen}
use Rattle.passes.specs.declared.symbol.Loc.{Loc}
use Rattle.passes.specs.Color.{Setup, Coloring}
use Rattle.passes.specs.Color.{after_dest, after_dests, sources_at, dests_at, color_step, color_to}
use Rattle.theorems.specs.Rule.{Alike, color_by, joins_by_x}
use Rattle.theorems.proofs.Pool.{given, colour_for, after_gen, after_named}

module _ (n i : ℕ) (E : List ℕ) where
  dest_alike : (w : ℕ) (h : Option Loc) {a b : Coloring} → Alike a b → Alike (after_dest n i E w h a) (after_dest n i E w h b)
  unfolding given colour_for
  dest_alike w h {a} {b} s = go (is_gen w) refl
    where
      go : (t : Bool) → is_gen w ≡ t → Alike (after_dest n i E w h a) (after_dest n i E w h b)
      go true q =
          rw (after_gen n i E w h a q, after_gen n i E w h b q)
          (record { allocs = rw (s.allocs, s.colours); colours = rw (s.allocs, s.colours) })
      go false q = rw (after_named n i E w h a q, after_named n i E w h b q) s

  dests_alike : (ds : List (ℕ × Option Loc)) {a b : Coloring} → Alike a b → Alike (after_dests n i E ds a) (after_dests n i E ds b)
  unfolding after_dests
  dests_alike [] s = s
  dests_alike (d ∷ ds) s = dests_alike ds (dest_alike d.0 d.1 s)

module _ (u : Setup) where
  step_alike : (i : ℕ) {a b : Coloring} → Alike a b → Alike (color_step u i a) (color_step u i b)
  unfolding color_step
  step_alike i {a} {b} s =
      let sources : sources_at u i a ≡ sources_at u i b = rw s.colours in
      let wants : dests_at u i a ≡ dests_at u i b = rw (s.colours, s.allocs) in
      let d = dests_alike u.count i u.ends (dests_at u i b) s in
      record { allocs = rw (wants, sources, d.allocs); colours = rw (wants, d.colours) }

  pub same_colours : (joins : ℕ → Coloring → List Loc) (i : ℕ) → Alike (color_by u joins i) (color_to u i)
  unfolding color_by color_to
  same_colours joins zero = record { allocs = refl; colours = refl }
  same_colours joins (suc i) =
      let s = step_alike i (same_colours joins i) in
      record { allocs = s.allocs; colours = s.colours }

  pub rule_moves_no_colour : (i : ℕ) → Alike (color_by u (joins_by_x u) i) (color_to u i)
  rule_moves_no_colour = same_colours (joins_by_x u)
