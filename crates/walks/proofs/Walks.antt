-- The walks one after the other: what each leaves is what the next asks for, and the whole is the definitions'.
-- By the laws of a slice that starts with words; a later walk writes over what an earlier one left.
use Prim.Native.Nat.{ℕ, ◌+◌, ◌*◌, ◌/◌, ◌≤◌}
use mathlib.Core.Bool.{true}
use mathlib.Core.List.{List, [], ◌∷◌, ◌++◌, append_assoc}
use mathlib.Core.Path.{◌≡◌, refl, sym, ap, ◌∙◌}
use native.Mathlib.Omega.{arith}
use lib.ListN.{length, take, drop, length-append, length-drop}
use Rattle.std.proofs.lemmas.List.{drop-append-le, take-append-drop}
use Rattle.mir.specs.declared.config.Settings.{Settings}
use Rattle.mir.specs.Records.{records}
use Rattle.mir.specs.Shapes.{any}
use Rattle.mir.proofs.Passing.{ListPasses, refusal_after}
use Rattle.mir.proofs.Renaming.{statics_two}
use Rattle.passes.specs.Color.{setup}
use Rattle.passes.specs.declared.symbol.Loc.{Loc}
use Rattle.passes.specs.Create.{ends_of}
use Rattle.passes.specs.Machine.{Passing}
use Rattle.theorems.specs.Named.{named_to}
use Rattle.theorems.proofs.Members.{few_members, members_named}
use Rattle.theorems.proofs.NeverEmpty.{ready_to}
use Rattle.walks.specs.declared.contract.Tally.{Tally}
use Rattle.passes.specs.Contract.{colours_of, members_of, counts_of, fullest_of}
use Rattle.mir.specs.Answers.{Passed, over}
use Rattle.mir.specs.Questions.{start_refusal, list_refusal}
use Rattle.coloring.specs.Coloring.{marked_ends, founds_to}
use Rattle.walks.specs.Walks.{Colored, Contracted}
use Rattle.coloring.proofs.Dests.{marked_length}
use Rattle.mir.proofs.Over.{over_over}
use Rattle.lives.proofs.Registers.{passing_list}

-- a slice that was written over starts with the words
pub starts : (ws old : List ℕ) {new : List ℕ} → new ≡ over ws old → new ≡ over ws new
starts ws old e = e ∙ (sym (over_over ws ws old (omega arith)) ∙ ap (over ws) (sym e))

-- words written over as many
pub again : (ws vs old : List ℕ) {new last : List ℕ} → length vs ≤ length ws → new ≡ over vs old → last ≡ over ws new → last ≡ over ws old
again ws vs old h e f = f ∙ (ap (over ws) e ∙ over_over ws vs old h)

-- words written over a part that begins a slice
pub over_begin : (ws old : List ℕ) (n : ℕ) {part : List ℕ} → part ≡ over ws (take n old) → length part ≡ length (take n old) → part ++ drop n old ≡ over ws old
over_begin ws old n e same =
    let fits : length ws ≤ length (take n old) = omega (arith, ap length e, length-append ws (drop (length ws) (take n old)), length-drop (length ws) (take n old)) in
    ap (λ r. r ++ drop n old) e
    ∙ (append_assoc ws (drop (length ws) (take n old)) (drop n old)
    ∙ ap (λ r. ws ++ r) (sym (drop-append-le (length ws) (take n old) (drop n old) fits) ∙ ap (drop (length ws)) (take-append-drop n old)))

-- a list that passes questions 1 to 4, and then the others
pub passing_after : (s : Settings) (list table : List ℕ) → start_refusal true s (length list) (length table) ≡ Passed → list_refusal s.count_regs list table ≡ Passed
    → Passing s list table
unfolding Passing
passing_after s list table h q = refusal_after true s list table h ∙ q

module _ (s : Settings) (list table : List ℕ) (h : Passing s list table) where
  passes : ListPasses s list table
  passes = passing_list s list table h

  pub marked_ends_lem : length (marked_ends s list table) ≤ length (ends_of list)
  marked_ends_lem = omega (arith, marked_length (founds_to (setup s list table) (records list)) (ends_of list))

  pub few_colours : length (colours_of s list table) ≤ any
  unfolding colours_of
  few_colours = omega (arith, (ready_to s list table passes (records list) (omega arith)).next, statics_two list (records list), passes.sized.small)

  pub few_in_set : length (members_of s list table) ≤ any
  unfolding members_of
  few_in_set = omega (arith, few_members s list table passes (records list) (omega arith), passes.sized.small, passes.sized.few)

  -- the members, by the table and by the pairs that the list names
  pub members_most : length (members_of s list table) * 2 ≤ length list / 8 * 4 + length table
  unfolding members_of
  members_most = omega (arith, few_members s list table passes (records list) (omega arith))

  pub members_by_name : length (members_of s list table) * 2 ≤ length list / 8 * 4 + named_to list (records list) * 2
  unfolding members_of
  members_by_name = omega (arith, members_named (setup s list table) (records list))

  -- what the second walk leaves
  pub colored : (C0 E0 : List ℕ) {C E : List ℕ} {members : List Loc} → records list * 2 ≤ length C → records list * 2 ≤ length E
      → C ≡ over (colours_of s list table) C0 → E ≡ over (marked_ends s list table) E0 → members ≡ members_of s list table → Colored s list table C E members
  colored C0 E0 c e p q m =
      record {
        passing = h;
        colours_room = c;
        ends_room = e;
        colours_start = starts (colours_of s list table) C0 p;
        ends_start = starts (marked_ends s list table) E0 q;
        members_are = m;
      }

  -- the ends, after the walk that makes them, the one that marks them and the one that takes the marks away
  pub ends_last : (E0 E1 : List ℕ) {E2 E3 : List ℕ} → E1 ≡ over (ends_of list) E0 → E2 ≡ over (marked_ends s list table) E1 → E3 ≡ over (ends_of list) E2
      → E3 ≡ over (ends_of list) E0
  ends_last E0 E1 p q r = again (ends_of list) (ends_of list) E0 (omega arith) p (again (ends_of list) (marked_ends s list table) E1 marked_ends_lem q r)

  -- the answer's counts
  pub counts_are : (t : Tally) (n m f : ℕ) {E E' O O' : List ℕ} → Contracted s list table t E E' O O' → n ≡ length (colours_of s list table) → m ≡ length (members_of s list table)
      → f ≡ fullest_of s list table → t.records ∷ n ∷ m ∷ t.nops ∷ t.loads ∷ t.moves ∷ t.saves ∷ f ∷ [] ≡ counts_of s list table
  unfolding counts_of
  counts_are t n m f k p q r = rw (p, q, r, k.records, k.nops, k.loads, k.moves, k.saves) refl
