-- What a verdict decides: of a list that passes, from what the walks leave; of any other, from nothing having changed.
-- By the two cases of what a verdict makes of an answer and of a slice.
use mathlib.Core.List.{List}
use mathlib.Core.Path.{◌≡◌, refl, sym, ap, ◌∙◌}
use Prim.Native.Nat.{ℕ}
use Rattle.std.specs.Prelude.{Ok, Err}
use Rattle.mir.specs.declared.config.Settings.{Settings}
use Rattle.mir.specs.declared.refusal.Refusal.{Refusal}
use Rattle.mir.specs.Answers.{Verdict, Passed, Refused, answered, number_of, over, left, unless}
use Rattle.mir.proofs.Clash.{clash}
use Rattle.passes.specs.Contract.{reduced, colours_of, members_of, words_of, counts_of}
use Rattle.passes.specs.Create.{ends_of}
use Rattle.walks.specs.declared.Counts.{Counts}
use Rattle.walks.specs.Lent.{Lent, Leaves, values_in, report}
use Rattle.walks.specs.Walks.{Reduces}

module _ {v : Verdict} where
  pub answer_passed : {r : Counts} (values : List ℕ) → v ≡ Passed → values_in r ≡ values → report (Ok r) ≡ unless v values
  answer_passed values p e = ap answered e ∙ sym (ap (λ u. unless u values) p)

  pub answer_refused : (r : Refusal) (values : List ℕ) → v ≡ Refused (number_of r.question) r.index → report (Err r) ≡ unless v values
  answer_refused r values p = sym (ap (λ u. unless u values) p)

  -- and back: an answer is no refusal, and a refusal no answer
  pub answered_of : (r : Counts) (values : List ℕ) → report (Ok r) ≡ unless v values → (v ≡ Passed) × (values_in r ≡ values)
  answered_of r values e = go v refl
    where
      go : (u : Verdict) → v ≡ u → (v ≡ Passed) × (values_in r ≡ values)
      go Passed p = (p, cc (e, p))
      go (Refused number index) p = clash (cc (e, p))

  pub refused_of : (r : Refusal) (values : List ℕ) → report (Err r) ≡ unless v values → v ≡ Refused (number_of r.question) r.index
  refused_of r values e = go v refl
    where
      go : (u : Verdict) → v ≡ u → v ≡ Refused (number_of r.question) r.index
      go Passed p = clash (cc (e, p))
      go (Refused number index) p = cc (e, p)

  module _ {Item : Type 0} (items held : List Item) where
    pub left_passed : {now : List Item} → v ≡ Passed → now ≡ over items held → now ≡ left v items held
    left_passed p e = e ∙ sym (ap (λ u. left u items held) p)

    pub left_over : {now : List Item} → v ≡ Passed → now ≡ left v items held → now ≡ over items held
    left_over p e = e ∙ ap (λ u. left u items held) p

    pub left_refused : {number index : ℕ} → v ≡ Refused number index → held ≡ left v items held
    left_refused p = sym (ap (λ u. left u items held) p)

  module _ (s : Settings) (list table : List ℕ) (held : Lent) where
    pub leaves_passed : {now : Lent} {r : Counts} → v ≡ Passed → Reduces s list table held now r → Leaves v s list table held now (Ok r)
    leaves_passed p w =
        record {
          answer = answer_passed (counts_of s list table) p w.counts;
          out = left_passed (reduced s list table) held.out p w.out;
          colours = left_passed (colours_of s list table) held.colours p w.colours;
          ends = left_passed (ends_of list) held.ends p w.ends;
          set = left_passed (words_of (members_of s list table)) held.set p w.set;
        }

    -- and back
    pub reduces_of : {now : Lent} {r : Counts} → Leaves v s list table held now (Ok r) → (v ≡ Passed) × Reduces s list table held now r
    reduces_of w =
        let told = answered_of _ (counts_of s list table) w.answer in (
          told.0,
          record {
            counts = told.1;
            out = left_over (reduced s list table) held.out told.0 w.out;
            colours = left_over (colours_of s list table) held.colours told.0 w.colours;
            ends = left_over (ends_of list) held.ends told.0 w.ends;
            set = left_over (words_of (members_of s list table)) held.set told.0 w.set;
          },
        )

    pub leaves_refused : {r : Refusal} → v ≡ Refused (number_of r.question) r.index → Leaves v s list table held held (Err r)
    leaves_refused {r} p =
        record {
          answer = answer_refused r (counts_of s list table) p;
          out = left_refused (reduced s list table) held.out p;
          colours = left_refused (colours_of s list table) held.colours p;
          ends = left_refused (ends_of list) held.ends p;
          set = left_refused (words_of (members_of s list table)) held.set p;
        }
