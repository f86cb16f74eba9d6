-- The second walk: what its loop keeps, what a record may be asked for, and that the record takes it to the next.
-- The lent slices are those of the definitions at i; a record takes them on, and the members grow by what it reads.
use Prim.Native.Nat.{ℕ, suc, ◌+◌, ◌*◌, ◌/◌, ◌<◌, ◌≤◌}
use mathlib.Core.Bool.{Bool, true}
use mathlib.Core.List.{List}
use mathlib.Core.Path.{◌≡◌, refl, sym, ap, subst, ◌∙◌}
use native.Mathlib.Numerals.{add-one}
use native.Mathlib.Omega.{arith}
use lib.ListN.{length}
use Rattle.mir.specs.declared.config.Settings.{Settings}
use Rattle.mir.specs.Questions.{fields_fit, partner_fits}
use Rattle.mir.specs.Records.{max_regs, records, record_at}
use Rattle.mir.specs.Renaming.{regs_to}
use Rattle.mir.specs.Shapes.{any, dests}
use Rattle.mir.proofs.Passing.{ListPasses}
use Rattle.mir.specs.declared.rename.Renaming.{Renaming}
use Rattle.mir.proofs.Renaming.{statics_two}
use Rattle.passes.specs.Color.{setup, loc_of, joined, found_at, color_to, fullest_at}
use Rattle.passes.specs.Contract.{members_of}
use Rattle.passes.specs.Create.{ends_of}
use Rattle.theorems.proofs.Create.{ends_fit}
use Rattle.theorems.proofs.ReadSet.{reads_at, members_next, joined_grows}
use Rattle.theorems.proofs.Members.{members_grow}
use Rattle.theorems.proofs.NeverEmpty.{ready_to}
use Rattle.colours.specs.declared.allocs.Allocs.{Allocs}
use Rattle.colours.specs.Masks.{Expired}
use Rattle.colours.proofs.Expiring.{expired_stands}
use Rattle.coloring.specs.Coloring.{slices_in, SlicesAre, Ready, Coloured, source_words, wanted_by, record_step, most_needed, was_found, reads_of, founds_to, marked}
use Rattle.coloring.proofs.Dests.{marked_length, lent_are}
use Rattle.mir.proofs.Over.{over_length}
use Rattle.sets.specs.declared.ReadSet.{ReadSet}
use Rattle.sets.specs.Members.{members_in, SetHolds}
use Rattle.sets.proofs.Pairs.{holds_length, holds_more}
use Rattle.coloring.specs.Walk.{State, state, Holds, Called, Colouring, slices_at}
use Rattle.coloring.proofs.Record.{sources_fit, sources_due, record_ready, record_step_lem, record_most, found_after}
use Rattle.coloring.proofs.Sources.{space_below, coloured_in}
use Rattle.lives.proofs.Registers.{passing_list, few_words, few_statics}

module _ {s : Settings} {list table C0 E0 : List ℕ} {S0 : ReadSet} where
  module _ (g : Called s list table C0 E0 S0) where
    passes : ListPasses s list table
    passes = passing_list s list table g.passing

    wide : length (ends_of list) ≤ length C0
    wide = ends_fit list g.colours_room

    set_room : length (color_to (setup s list table) (records list)).members * 2 ≤ length S0.words.now
    unfolding members_of
    set_room = g.words_room

  module _ {i : ℕ} {st : State} {set : ReadSet} {r : Renaming} (inv : Colouring s list table C0 E0 S0 i st set r) where
    pub colours_same : i ≤ records list → length st.colours ≡ length C0
    colours_same le =
        ap length inv.holds.colours
        ∙ over_length (color_to (setup s list table) i).colours C0 (rw (ready_to s list table (passes inv.called) i le).next (omega (arith, statics_two list i, inv.called.colours_room)))

    pub ends_same : length st.ends ≡ length E0
    ends_same =
        ap length inv.holds.ends
        ∙ over_length (marked (founds_to (setup s list table) i) (ends_of list)) E0 (rw (marked_length (founds_to (setup s list table) i) (ends_of list)) (ends_fit list inv.called.ends_room))

    module _ (l : i < length list / 8) where
      le : i ≤ records list
      le = omega arith

      -- the list's words, and the statics before a record and its own, are few
      pub words_few : length list ≤ 524288
      words_few = few_words list (s, table, inv.called.passing) i l

      pub statics_few : r.statics + 2 ≤ (length list / 8) * 2
      statics_few = few_statics list (s, table, inv.called.passing) i l inv.walked

      pub colours_two : r.statics + 2 ≤ length st.colours
      colours_two = rw (colours_same le) (omega (arith, statics_few, inv.called.colours_room))

      pub ends_two : r.statics + 2 ≤ length st.ends
      ends_two = rw ends_same (omega (arith, statics_few, inv.called.ends_room))

      module _ {rec : List ℕ} (e : rec ≡ record_at list i) where
        -- what the record's own words are
        pub record_fields : fields_fit table rec ≡ true
        record_fields = rw e ((passes inv.called).each i l).shape.fields

        pub record_partner : partner_fits rec ≡ true
        record_partner = rw e ((passes inv.called).each i l).partner

        pub record_space : (loc_of rec).space < any
        record_space = space_below table rec record_fields

        -- the sources' colours are those of the definitions
        words_are : source_words r.regs st.colours rec ≡ source_words (regs_to list i) (slices_at s list table C0 E0 i).colours (record_at list i)
        words_are = rw (inv.holds.colours, inv.walked.regs_are, e) refl

        pub coloured : Coloured s.count_regs (source_words r.regs st.colours rec)
        coloured = rw words_are (sources_fit s list table (passes inv.called) C0 E0 (wide inv.called) i l)

        pub coloured_most : Coloured max_regs (source_words r.regs st.colours rec)
        coloured_most j z k = omega (arith, coloured j z k, (passes inv.called).few)

        -- what making colours free gives: the masks tell of the colours at this record
        pub expire_gives : {freed : Allocs} → Expired st.allocs (source_words r.regs st.colours rec) i freed → Holds s list table C0 E0 i i (state freed st.colours st.ends)
        expire_gives x =
            record {
              allocs = expired_stands inv.holds.allocs x (omega arith) (rw words_are (sources_due s list table (passes inv.called) C0 E0 (wide inv.called) i l)) (coloured_in s.count_regs _ coloured);
              colours = inv.holds.colours;
              ends = inv.holds.ends;
            }

        -- what colouring the record asks for, and what it gives: what is lent after it, and that the masks tell of the colours there
        module _ {freed : Allocs} (h : Holds s list table C0 E0 i i (state freed st.colours st.ends)) where
          pub color_ready : Ready s.count_regs i r.statics (wanted_by r.regs rec (slices_in freed st.colours st.ends)) (slices_in freed st.colours st.ends)
          color_ready =
              subst (λ σ. Ready s.count_regs i r.statics (wanted_by r.regs rec σ) σ) (sym (lent_are h))
              (rw (inv.walked.regs_are, inv.walked.statics_are, e) (record_ready s list table (passes inv.called) C0 E0 (wide inv.called) i l))

          pub color_gives : {after : Allocs} {cs es : List ℕ} → SlicesAre s.count_regs i (record_step s.count_regs i r.statics r.regs rec (slices_in freed st.colours st.ends)) after cs es
              → Holds s list table C0 E0 (i + 1) i (state after cs es)
          color_gives {after} {cs} {es} =
              subst (λ σ. SlicesAre s.count_regs i σ after cs es)
              (rw (lent_are h, inv.walked.regs_are, inv.walked.statics_are, e) (record_step_lem s list table (passes inv.called) C0 E0 (wide inv.called) i l))

          -- and the most that a choice of it leaves needed
          pub color_most : {most : ℕ} → most ≡ most_needed s.count_regs i r.statics (wanted_by r.regs rec (slices_in freed st.colours st.ends)) (slices_in freed st.colours st.ends)
              → most ≡ fullest_at (setup s list table) i
          color_most most =
              most
              ∙ subst (λ σ. most_needed s.count_regs i r.statics (wanted_by r.regs rec σ) σ ≡ fullest_at (setup s list table) i) (sym (lent_are h))
              (rw (inv.walked.regs_are, inv.walked.statics_are, e) (record_most s list table (passes inv.called) C0 E0 (wide inv.called) i l))

        pub found_gives : {found : Bool} {after : State} → found ≡ was_found (dests rec) r.statics after.ends → Holds s list table C0 E0 (i + 1) i after
            → found ≡ found_at (setup s list table) i (color_to (setup s list table) i)
        found_gives f h = f ∙ rw (h.ends, inv.walked.statics_are, e) (found_after s list table (passes inv.called) C0 E0 (wide inv.called) i l)

        module _ {found : Bool} (f : found ≡ found_at (setup s list table) i (color_to (setup s list table) i)) where
          -- what the record reads, in the definitions' words
          pub reads_are : joined (members_in set) (reads_of table rec found) ≡ (color_to (setup s list table) (i + 1)).members
          unfolding reads_at
          reads_are = rw (add-one i, members_next (setup s list table) i, inv.set_holds.members, f, e) refl

          pub read_room : length (joined (members_in set) (reads_of table rec found)) * 2 ≤ length set.words.now
          read_room =
              rw (reads_are, holds_length inv.set_holds, add-one i) (omega (arith, members_grow (setup s list table) (suc i) (records list) (omega arith), set_room inv.called))

          pub read_gives : {set' : ReadSet} → SetHolds set' (joined (members_in set) (reads_of table rec found)) set → SetHolds set' (color_to (setup s list table) (i + 1)).members S0
          read_gives h =
              holds_more inv.set_holds (rw (← reads_are, inv.set_holds.members) (joined_grows (color_to (setup s list table) i).members (reads_of table rec found))) (rw reads_are at h)
