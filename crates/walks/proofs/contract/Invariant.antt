-- The last walk: what its loop keeps, what a record may be asked for, and that the record takes it to the next.
-- The colours are read off the lent slice, which has grown to all; the marks say what was found, and go.
use Prim.Native.Nat.{ℕ, suc, ◌+◌, ◌*◌, ◌-◌, ◌/◌, ◌%◌, ◌<◌, ◌≤◌}
use mathlib.Core.Bool.{Bool, true, false, cond}
use mathlib.Core.List.{List, [], ◌++◌, map, append-nil}
use mathlib.Core.Path.{◌≡◌, refl, sym, ap, subst, ◌∙◌}
use native.Mathlib.Nat.{add-zero}
use native.Mathlib.Numerals.{add-one}
use native.Mathlib.Omega.{arith}
use lib.Dec.{eqb}
use lib.ListN.{length, get_or, take, drop}
use borrow.Rule.Slice.PartMut.{put_mid}
use lib.Seq.{take-append_seam, drop-append_seam}
use Rattle.mir.specs.declared.config.Settings.{Settings}
use Rattle.mir.specs.Questions.{partner_fits}
use Rattle.mir.specs.Records.{records, record_at, fixed_mark}
use Rattle.mir.specs.Renaming.{gens, statics_to, regs_to}
use Rattle.mir.specs.Shapes.{any, dests}
use Rattle.mir.specs.declared.rename.Renaming.{Renaming}
use Rattle.mir.proofs.Passing.{ListPasses}
use Rattle.mir.proofs.Renaming.{Walked, statics_two}
use Rattle.passes.specs.declared.alloc.Outcome.{Outcome}
use Rattle.passes.specs.declared.alloc.Outcome.TheVariants.{Kept, Nop, Load, Move, Save}
use Rattle.passes.specs.Color.{Setup, setup, found_at, color_to}
use Rattle.passes.specs.Create.{ends_of}
use Rattle.theorems.proofs.Create.{ends_fit}
use Rattle.theorems.proofs.Lengths.{reduced_length, counts_add}
use Rattle.walks.specs.declared.contract.Tally.{Tally}
use Rattle.mir.specs.Answers.{over}
use Rattle.passes.specs.declared.symbol.Loc.{Loc}
use Rattle.passes.specs.Contract.{is_kept, outcome_number, read_set, out_at, outcome_at, reduced_to, reduced, count_to, count_of, members_of}
use Rattle.coloring.specs.Coloring.{was_found, founds_to, marked}
use Rattle.walks.specs.Walks.{Colored, Contracted, Short, rewritten, outcome_in, tallied, put_if}
use Rattle.walks.proofs.contract.Colours.{Grows, grows_get, founds_grow, rewritten_out}
use Rattle.coloring.proofs.Dests.{marked_length}
use Rattle.mir.proofs.Over.{over_length, over_after}
use Rattle.coloring.proofs.Record.{small, room, founds_length, found_flags}
use Rattle.walks.proofs.contract.Marks.{seen, seen_none, seen_past, seen_all, unmark_part}
use Rattle.lives.proofs.Registers.{passing_list}

-- the counts of the first i records
abbrev pub tally_to : Settings → List ℕ → List ℕ → ℕ → Tally
tally_to s list table i =
    record {
      records = count_to Kept (fixed_mark s) (setup s list table) i;
      nops = count_to Nop (fixed_mark s) (setup s list table) i;
      loads = count_to Load (fixed_mark s) (setup s list table) i;
      moves = count_to Move (fixed_mark s) (setup s list table) i;
      saves = count_to Save (fixed_mark s) (setup s list table) i;
    }

-- the ends, those of the statics before record i without marks
abbrev pub ends_at : Settings → List ℕ → List ℕ → ℕ → List ℕ
ends_at s list table i = marked (seen (statics_to list i) (founds_to (setup s list table) (records list))) (ends_of list)

pub record Contracting (s : Settings) (list table E0 O0 : List ℕ) (i : ℕ) (ends out : List ℕ) (t : Tally) : Type 0 where
  pub ends_are : ends ≡ over (ends_at s list table i) E0
  pub out_is : out ≡ over (reduced_to (fixed_mark s) (setup s list table) i) O0
  pub tally_is : t ≡ tally_to s list table i

-- ---- the counts

tally_same : {a b c d e : ℕ} (t : Tally) → a ≡ t.records → b ≡ t.nops → c ≡ t.loads → d ≡ t.moves → e ≡ t.saves
    → ◌≡◌ {A = Tally} (record { records = a; nops = b; loads = c; moves = d; saves = e }) t
tally_same t p q r v w = λ i. record { records = p i; nops = q i; loads = r i; moves = v i; saves = w i }

pub tally_next : (s : Settings) (list table : List ℕ) (i : ℕ) → tallied (outcome_at (fixed_mark s) (setup s list table) i) (tally_to s list table i) ≡ tally_to s list table (suc i)
unfolding count_to
tally_next s list table i = go (outcome_at (fixed_mark s) (setup s list table) i)
  where
    t : Tally
    t = tally_to s list table i

    one_more : Outcome → Outcome → ℕ
    one_more f g = cond (eqb (outcome_number f) (outcome_number g)) 1 0

    more : Outcome → Tally
    more f =
        record {
          records = t.records + one_more f Kept;
          nops = t.nops + one_more f Nop;
          loads = t.loads + one_more f Load;
          moves = t.moves + one_more f Move;
          saves = t.saves + one_more f Save;
        }

    go : (f : Outcome) → tallied f t ≡ more f
    go Kept = tally_same _ refl (sym (add-zero t.nops)) (sym (add-zero t.loads)) (sym (add-zero t.moves)) (sym (add-zero t.saves))
    go Nop = tally_same _ (sym (add-zero t.records)) refl (sym (add-zero t.loads)) (sym (add-zero t.moves)) (sym (add-zero t.saves))
    go Load = tally_same _ (sym (add-zero t.records)) (sym (add-zero t.nops)) refl (sym (add-zero t.moves)) (sym (add-zero t.saves))
    go Move = tally_same _ (sym (add-zero t.records)) (sym (add-zero t.nops)) (sym (add-zero t.loads)) refl (sym (add-zero t.saves))
    go Save = tally_same _ (sym (add-zero t.records)) (sym (add-zero t.nops)) (sym (add-zero t.loads)) (sym (add-zero t.moves)) refl

-- ---- a record that is kept goes after those that were

put_after : (R W O0 : List ℕ) (at : ℕ) (b : Bool) → at ≡ length R
    → put_if b at W (over R O0) ≡ over (R ++ cond b W []) O0
put_after R W O0 at false e = ap (λ xs. over xs O0) (sym (append-nil R))
put_after R W O0 at true e =
    rw (e, take-append_seam R (drop (length R) O0), drop-append_seam R (drop (length R) O0)) (over_after R W O0)

-- what the walk is called with: what the second walk left, and an output that has room
pub record Call : Type 0 where
  pub settings : Settings
  pub list : List ℕ
  pub table : List ℕ
  pub colours : List ℕ
  pub ends : List ℕ
  pub members : List Loc
  pub colored : Colored settings list table colours ends members
  pub out : List ℕ
  pub room_out : length list ≤ length out

module _ (g : Call) where
  abbrev s : Settings
  s = g.settings

  abbrev list : List ℕ
  list = g.list

  abbrev table : List ℕ
  table = g.table

  abbrev u : Setup
  u = setup s list table

  abbrev C : List ℕ
  C = g.colours

  abbrev E0 : List ℕ
  E0 = g.ends

  abbrev members : List Loc
  members = g.members

  abbrev O0 : List ℕ
  O0 = g.out

  abbrev col : Colored s list table C E0 members
  col = g.colored

  pub passes : ListPasses s list table
  passes = passing_list s list table col.passing

  wide : length (ends_of list) ≤ length C
  wide = ends_fit list col.colours_room

  ends_in : length (ends_of list) ≤ length E0
  ends_in = ends_fit list col.ends_room

  -- the set's members
  members_are : members ≡ read_set u
  unfolding members_of
  members_are = col.members_are

  pub contracting_first : {t : Tally} → (t.records ≡ 0) × ((t.nops ≡ 0) × ((t.loads ≡ 0) × ((t.moves ≡ 0) × (t.saves ≡ 0)))) → Contracting s list table E0 O0 0 E0 O0 t
  unfolding reduced_to count_to statics_to
  contracting_first {t} none =
      record {
        ends_are = rw (seen_none (founds_to u (records list))) col.ends_start;
        out_is = refl;
        tally_is = sym (tally_same t (sym none.0) (sym none.1.0) (sym none.1.1.0) (sym none.1.1.1.0) (sym none.1.1.1.1));
      }

  -- every record seen: no mark is left
  ends_all : ends_at s list table (records list) ≡ ends_of list
  ends_all =
      seen_all (statics_to list (records list)) (founds_to u (records list)) (ends_of list)
      (omega (arith, founds_length s list table passes C E0 wide (records list)))

  module _ {i : ℕ} {ends out : List ℕ} {t : Tally} (inv : Contracting s list table E0 O0 i ends out t) (le : i ≤ records list) where
    pub ends_same : length ends ≡ length E0
    ends_same =
        ap length inv.ends_are
        ∙ over_length (ends_at s list table i) E0 (rw (marked_length (seen (statics_to list i) (founds_to u (records list))) (ends_of list)) ends_in)

    kept_few : count_to Kept (fixed_mark s) u i ≤ i
    kept_few = omega (arith, counts_add (fixed_mark s) u i)

    pub out_same : length out ≡ length O0
    out_same =
        ap length inv.out_is
        ∙ over_length (reduced_to (fixed_mark s) u i) O0 (omega (arith, reduced_length (fixed_mark s) u i le, kept_few, g.room_out))

  module _ {i : ℕ} {ends out : List ℕ} {t : Tally} (inv : Contracting s list table E0 O0 i ends out t) (l : i < length list / 8)
      {r : Renaming} (w : Walked list i r) {rec : List ℕ} (e : rec ≡ record_at list i) where
    below : i ≤ records list
    below = omega arith

    -- what contracting the record asks for
    pub contract_asks : (partner_fits rec ≡ true) × (r.statics + 2 ≤ length C) × (r.statics + 2 ≤ length ends) × Short t any × (t.records * 8 + 8 ≤ length out)
    contract_asks =
        let k = statics_two list i in
        let q = counts_add (fixed_mark s) u i in
        let few = passes.sized.small in (
          rw e (passes.each i l).partner,
          omega (arith, w.statics_are, k, col.colours_room),
          omega (arith, w.statics_are, k, col.ends_room, ends_same inv below),
          rw inv.tally_is (omega (arith, q, few), omega (arith, q, few), omega (arith, q, few), omega (arith, q, few), omega (arith, q, few)),
          rw inv.tally_is (omega (arith, q, out_same inv below, g.room_out)),
        )

    found_is : was_found (dests rec) r.statics ends ≡ found_at u i (color_to u i)
    unfolding statics_to
    found_is = rw (inv.ends_are, w.statics_are, e) (found_flags s list table passes C E0 wide i l (seen (statics_to list i) (founds_to u (records list))) flag)
      where
        inside : (j : ℕ) → j < gens (dests (record_at list i)) → statics_to list i + j < length (founds_to u (suc i))
        inside j z = rw (founds_length s list table passes C E0 wide (suc i)) (omega arith)

        -- the flags of the record's statics stayed
        flag : (j : ℕ) → j < gens (dests (record_at list i))
            → get_or (seen (statics_to list i) (founds_to u (records list))) (statics_to list i + j) false ≡ get_or (founds_to u (suc i)) (statics_to list i + j) false
        flag j z =
            let k : (records list - suc i) + suc i ≡ records list = omega arith in
            let g = subst (λ n. Grows (founds_to u (suc i)) (founds_to u n)) k (founds_grow u (records list - suc i) (suc i)) in
            seen_past (statics_to list i) (statics_to list i + j) (founds_to u (records list)) (omega arith) ∙ grows_get false (statics_to list i + j) g (inside j z)

    written_is : rewritten r.regs r.statics C rec ≡ out_at u i
    written_is =
        rw (w.regs_are, w.statics_are, e)
        (subst (λ cs. rewritten (regs_to list i) (statics_to list i) cs (record_at list i) ≡ out_at u i) (sym col.colours_start) (rewritten_out s list table passes C i l))

    outcome_is : (fixed : ℕ) → fixed ≡ fixed_mark s → outcome_in fixed members r.regs r.statics C ends rec ≡ outcome_at (fixed_mark s) u i
    unfolding outcome_at
    outcome_is fixed f =
        ap (λ ms. outcome_in fixed ms r.regs r.statics C ends rec) members_are ∙ rw (f, found_is, written_is) refl

    ends_next : {made : ℕ} → made ≡ gens (dests rec) → put_mid r.statics made ends (map (λ end. end % 65536) (take made (drop r.statics ends))) ≡ over (ends_at s list table (i + 1)) E0
    unfolding statics_to
    ends_next m =
        rw (add-one i, m, inv.ends_are, w.statics_are, e)
        (unmark_part (ends_of list) E0 (founds_to u (records list)) (small s list table passes C E0 wide) (gens (dests (record_at list i))) (statics_to list i)
        (room s list table passes C E0 wide i l))

    out_next : put_if (is_kept (outcome_at (fixed_mark s) u i)) (t.records * 8) (out_at u i) out
        ≡ over (reduced_to (fixed_mark s) u (i + 1)) O0
    unfolding reduced_to
    out_next =
        rw (add-one i, inv.out_is, inv.tally_is)
        (put_after (reduced_to (fixed_mark s) u i) (out_at u i) O0 (count_to Kept (fixed_mark s) u i * 8) (is_kept (outcome_at (fixed_mark s) u i)) (sym (reduced_length (fixed_mark s) u i below)))

    pub contracting_next : (fixed : ℕ) → fixed ≡ fixed_mark s → {ends' out' : List ℕ} {t' : Tally} {made : ℕ} → made ≡ gens (dests rec)
        → t' ≡ tallied (outcome_in fixed members r.regs r.statics C ends rec) t
        → ends' ≡ put_mid r.statics made ends (map (λ end. end % 65536) (take made (drop r.statics ends)))
        → out' ≡ put_if (is_kept (outcome_in fixed members r.regs r.statics C ends rec)) (t.records * 8) (rewritten r.regs r.statics C rec) out
        → Contracting s list table E0 O0 (i + 1) ends' out' t'
    contracting_next fixed f m p q o =
        let k = outcome_is fixed f in
        record {
          ends_are = q ∙ ends_next m;
          out_is = o ∙ (rw (k, written_is) out_next);
          tally_is = p ∙ (ap (λ g. tallied g t) k ∙ (ap (tallied (outcome_at (fixed_mark s) u i)) inv.tally_is ∙ (tally_next s list table i ∙ ap (tally_to s list table) (sym (add-one i)))));
        }

  -- after the last record
  module _ {i : ℕ} {ends out : List ℕ} {t : Tally} (inv : Contracting s list table E0 O0 i ends out t) (e : i ≡ records list) where
    pub contracted : Contracted s list table t E0 ends O0 out
    unfolding count_of reduced
    contracted =
        let v = rw e at inv in
        record {
          records = ap (λ (k : Tally). k.records) v.tally_is;
          nops = ap (λ (k : Tally). k.nops) v.tally_is;
          loads = ap (λ (k : Tally). k.loads) v.tally_is;
          moves = ap (λ (k : Tally). k.moves) v.tally_is;
          saves = ap (λ (k : Tally). k.saves) v.tally_is;
          ends_left = v.ends_are ∙ ap (λ xs. over xs E0) ends_all;
          out_left = v.out_is;
        }
