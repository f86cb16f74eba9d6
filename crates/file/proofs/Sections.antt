-- The sections of a file: what its layout says of them, and when it has none.
-- The layout holds counts only if each is at most 512 and the file is as long as they say.
use Prim.Native.Nat.{ℕ, ◌+◌, ◌*◌, ◌≤◌}
use mathlib.Core.Bool.{Bool, true, false, cond}
use mathlib.Core.List.{List}
use mathlib.Core.Path.{◌≡◌, refl}
use lib.ListN.{length}
use borrow.Author.Tests.{leb-true, le-leb, eqb-true, eq-eqb}
use Rattle.mir.proofs.Clash.{clash}
use Rattle.mir.proofs.Renaming.{and_both}
use Rattle.std.specs.Prelude.{Some, None}
use Rattle.file.specs.declared.layout.Layout.{Layout}
use Rattle.file.specs.File.{words_in, pair_count, record_count, table_in, list_in, well_formed, counted, layout_of}
use Rattle.mir.specs.Answers.{over}
use Rattle.file.proofs.layout.Bytes.{words_length, Read, read}

pub record Sections (file : List ℕ) (pairs records : ℕ) : Type 0 where
  pub well : well_formed file ≡ true
  pub pairs_are : pairs ≡ pair_count file
  pub records_are : records ≡ record_count file
  pub few_pairs : pairs ≤ 512
  pub few_records : records ≤ 512
  pub size : length file ≡ (7 + pairs * 2 + records * 8) * 4

pub well_sections : {file : List ℕ} → well_formed file ≡ true → Sections file (pair_count file) (record_count file)
unfolding well_formed
well_sections w =
    let a = and_both _ _ w in
    let b = and_both _ _ a.1 in
    record {
      well = w;
      pairs_are = refl;
      records_are = refl;
      few_pairs = leb-true _ _ a.0;
      few_records = leb-true _ _ b.0;
      size = eqb-true _ _ b.1;
    }

pub sections : {file : List ℕ} {layout : Layout} → layout_of file ≡ Some layout → Sections file layout.pairs layout.records
unfolding layout_of
sections {file} {layout} e = go (well_formed file) refl e
  where
    go : (b : Bool) → well_formed file ≡ b → cond b (Some (counted (pair_count file) (record_count file))) None ≡ Some layout → Sections file layout.pairs layout.records
    go false w q = clash (cc)
    go true w q =
        let p : counted (pair_count file) (record_count file) ≡ layout = cc in
        rw (← p) (well_sections w)

-- a file with a count over 512, or of another length
pub layout_bad : (file : List ℕ) → (Sections file (pair_count file) (record_count file) → ⊥) → None ≡ layout_of file
unfolding layout_of
layout_bad file h = go (well_formed file) refl
  where
    go : (b : Bool) → well_formed file ≡ b → None ≡ cond b (Some (counted (pair_count file) (record_count file))) None
    go false w = refl
    go true w = absurd (h (well_sections w))

-- any other
pub layout_good : (file : List ℕ) → pair_count file ≤ 512 → record_count file ≤ 512 → length file ≡ (7 + pair_count file * 2 + record_count file * 8) * 4
    → Some (counted (pair_count file) (record_count file)) ≡ layout_of file
unfolding layout_of well_formed
layout_good file p r l = rw (le-leb (pair_count file) 512 p, le-leb (record_count file) 512 r, eq-eqb (length file) _ l)

-- the sections in the definitions' words
module _ {file : List ℕ} {pairs records : ℕ} (h : Sections file pairs records) where
  pub table_is : words_in file 6 (pairs * 2) ≡ table_in file
  unfolding table_in
  table_is = rw h.pairs_are

  pub list_is : words_in file (7 + pairs * 2) (records * 8) ≡ list_in file
  unfolding list_in
  list_is = rw (h.pairs_are, h.records_are)

  pub list_length : length (list_in file) ≡ records * 8
  list_length = cc (list_is, words_length file (7 + pairs * 2) (records * 8))

-- the table and the list as they are read into a space that held any words
module _ (file old : List ℕ) {out : List ℕ} (layout : Layout) (found : layout_of file ≡ Some layout) where
  pub table_read : out ≡ over (words_in file 6 (layout.pairs * 2)) old → Read (table_in file) (layout.pairs * 2) out
  table_read e = read file 6 (layout.pairs * 2) old (table_is (sections found)) e

  pub list_read : out ≡ over (words_in file (7 + layout.pairs * 2) (layout.records * 8)) old → Read (list_in file) (layout.records * 8) out
  list_read e = read file (7 + layout.pairs * 2) (layout.records * 8) old (list_is (sections found)) e
