-- A colour becomes free at the record that equals its life, and there it is the colour of a source.
-- A colour that is needed up to record i, and not beyond, has an owner: a register whose static ends at i, so that i reads it.
use Rattle.std.specs.Prelude.{Option, Some, None}
use Prim.Native.Nat.{ℕ, ◌-◌, ◌≤◌, ◌<◌}
use mathlib.Core.Bool.{Bool, true, false}
use mathlib.Core.List.{List, [], ◌∷◌, map}
use mathlib.Core.Logic.{◌⊎◌, inl, inr, ⊎_elim}
use mathlib.Core.Path.{◌≡◌, refl, ap, ◌∙◌}
use native.Mathlib.Omega.{arith}
use lib.ListN.{get_or}
use Rattle.mir.specs.declared.config.Settings.{Settings}
use Rattle.mir.specs.Records.{records, record_at, is_gen}
use Rattle.mir.specs.Renaming.{regs_to}
use Rattle.mir.specs.Shapes.{sources}
use Rattle.mir.proofs.Clash.{clash, same_or}
use Rattle.mir.proofs.Passing.{ListPasses}
use Rattle.passes.specs.Color.{setup, colour_at, source_word, sources_at, color_to}
use Rattle.passes.specs.Create.{ends_of}
use Rattle.theorems.proofs.Create.{In, names_to, read_last}
use Rattle.theorems.proofs.NeverEmpty.{ready_to}
use Rattle.theorems.proofs.Pool.{Owned}

pub in_map : (f : ℕ → ℕ) (ws : List ℕ) (w : ℕ) → In w ws → In (f w) (map f ws)
in_map f [] w m = m
in_map f (v ∷ vs) w (inl e) = inl (ap f e)
in_map f (v ∷ vs) w (inr m) = inr (in_map f vs w m)

-- a word that is a Gen register which holds static s
abbrev Reads : List (Option ℕ) → ℕ → ℕ → Type 0
Reads regs s w = (is_gen w ≡ true) × (get_or regs w None ≡ Some s)

reads_or : (regs : List (Option ℕ)) (s w : ℕ) → Reads regs s w ⊎ (Reads regs s w → ⊥)
reads_or regs s w = go (is_gen w) refl (get_or regs w None) refl
  where
    go : (b : Bool) → is_gen w ≡ b → (k : Option ℕ) → get_or regs w None ≡ k → Reads regs s w ⊎ (Reads regs s w → ⊥)
    go false g k e = inr (λ h. let q = h.0 in clash (cc))
    go true g None e = inr (λ h. let q = h.1 in clash (cc))
    go true g (Some t) e =
        ⊎_elim (λ (q : t ≡ s). inl (g, e ∙ ap Some q))
        (λ (q : t ≡ s → ⊥).
        inr (λ h.
        let p = h.1 in
        let z : t ≡ s = cc in
        q z)) (same_or t s)

some_read : (regs : List (Option ℕ)) (s : ℕ) (ws : List ℕ) → ((w : ℕ) × In w ws × Reads regs s w) ⊎ ((w : ℕ) → In w ws → Reads regs s w → ⊥)
some_read regs s [] = inr (λ w m. absurd m)
some_read regs s (v ∷ vs) =
    ⊎_elim (λ (h : Reads regs s v). inl (v, inl refl, h))
    (λ (no : Reads regs s v → ⊥).
    ⊎_elim (λ (r : (w : ℕ) × In w vs × Reads regs s w). inl (r.0, inr r.1, r.2))
    (λ (none : (w : ℕ) → In w vs → Reads regs s w → ⊥).
    inr (λ w m h. ⊎_elim (λ (e : w ≡ v). no (rw e at h)) (λ k. none w k h) m)) (some_read regs s vs)) (reads_or regs s v)

module _ (s : Settings) (list table : List ℕ) (passes : ListPasses s list table) (i : ℕ) (l : i < records list) where
  pub due : (c : ℕ) → c < s.count_regs → i - 1 < (colour_at (color_to (setup s list table) i).allocs c).life
      → (colour_at (color_to (setup s list table) i).allocs c).life ≤ i → In c (sources_at (setup s list table) i (color_to (setup s list table) i))
  unfolding Owned
  due c below needed ends =
      let ready = ready_to s list table passes i (omega arith) in
      let o = ready.owned c below needed in
      let at : get_or (ends_of list) o.static 0 ≡ i = omega (arith, o.end) in
      let old = (names_to list i).below o.reg o.static o.holds in
      let regs = regs_to list i in
      let ws = sources (record_at list i) in
      ⊎_elim
      (λ (r : (w : ℕ) × In w ws × Reads regs o.static w).
      let word : source_word regs (color_to (setup s list table) i).colours r.0 ≡ c = rw (r.2.0, r.2.1) o.colour in
      rw word at (in_map (source_word regs (color_to (setup s list table) i).colours) ws r.0 r.1))
      (λ (none : (w : ℕ) → In w ws → Reads regs o.static w → ⊥).
      absurd (read_last list i o.static l old at (λ w m g e. none w m (g, e)))) (some_read regs o.static ws)
