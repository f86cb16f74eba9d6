-- Public: how full the registers get, on colours, on destinations and on lists: each step past a limit, and lists on which a count made
-- before the choice, without found choices, of lives at the index, of one half, or of the last choice would be another.
use Rattle.std.specs.Prelude.{◌≡◌, ℕ, true, false, List, [], ◌∷◌, ◌++◌, replicate, Some, None}
use Rattle.mir.specs.declared.config.Settings.{Settings}
use Rattle.passes.specs.declared.alloc.Alloc.{Alloc}
use Rattle.passes.specs.Color.{Coloring, loc, alloc, needed, fullest_for, no_gen_source}
use Rattle.passes.specs.Contract.{fullest_of}
use Rattle.passes.specs.Instructions.{mem, load_const, load, load_complex, save, plus, mov, label}

-- with two registers, args 0, not complex, and no table
unfoldable pub of : List ℕ → ℕ
of list = fullest_of settings list []
  where
    settings : Settings
    settings = record { count_regs = 2; args = 0; complex = false; arm = false; compress = false }

-- two colours, needed up to 4 and up to 5; the first holds Mem 7
abbrev pub two : List Alloc
two = alloc 4 (Some (loc 1 7)) ∷ alloc 5 None ∷ []

abbrev pub state : List Alloc → Coloring
state allocs = record { allocs = allocs; colours = []; members = [] }

abbrev pub free : List Alloc
free = alloc 0 None ∷ alloc 0 None ∷ []

pub record FullCases : Type 0 where
  -- a life is above the index, or not; only the colours of the count
  pub both : needed 2 3 two ≡ 2
  pub one : needed 2 4 two ≡ 1
  pub none : needed 2 5 two ≡ 0
  pub count_one : needed 1 3 two ≡ 1
  pub count_none : needed 0 3 two ≡ 0
  pub most : needed 64 0 (replicate 64 (alloc 1 None)) ≡ 64
  pub last : needed 64 0 (replicate 63 (alloc 0 None) ++ alloc 1 None ∷ []) ≡ 1
  pub past : needed 63 0 (replicate 63 (alloc 0 None) ++ alloc 1 None ∷ []) ≡ 0
  -- at instruction 5, a static that ends at 6 and one that ends at 5: after the choice, found or free, and not before it
  pub nothing : fullest_for 2 5 (6 ∷ 6 ∷ []) [] (state two) ≡ 0
  pub chosen : fullest_for 2 5 (6 ∷ []) ((0, None) ∷ []) (state two) ≡ 1
  pub unread : fullest_for 2 5 (5 ∷ []) ((0, None) ∷ []) (state two) ≡ 0
  pub found : fullest_for 2 5 (6 ∷ []) ((0, Some (loc 1 7)) ∷ []) (state two) ≡ 1
  pub named : fullest_for 2 3 (6 ∷ []) ((256, None) ∷ []) (state two) ≡ 0
  -- the larger of two choices' counts, though a named register comes first
  pub halves : fullest_for 2 5 (6 ∷ 6 ∷ []) ((0, None) ∷ (1, None) ∷ []) (state free) ≡ 2
  pub first_half : fullest_for 2 5 (6 ∷ 5 ∷ []) ((0, None) ∷ (1, None) ∷ []) (state free) ≡ 1
  pub second_half : fullest_for 2 5 (5 ∷ 6 ∷ []) ((0, None) ∷ (1, None) ∷ []) (state free) ≡ 1
  pub named_first : fullest_for 2 5 (6 ∷ []) ((256, None) ∷ (1, None) ∷ []) (state free) ≡ 1
  -- lists
  pub empty : of [] ≡ 0
  pub never_read : of (load_const 0 0) ≡ 0
  pub read : of (load_const 0 0 ++ save 0 mem 0) ≡ 1
  pub in_place : of (load_const 0 0 ++ (plus 0 0 0 ++ save 0 mem 0)) ≡ 1
  pub two_at_once : of (load 0 mem 0 ++ (load 1 mem 1 ++ (plus 0 0 1 ++ save 0 mem 2))) ≡ 2
  pub found_alone : of (load 0 mem 3 ++ (load 0 mem 3 ++ save 0 mem 4)) ≡ 1
  pub found_shared : of (load 0 mem 0 ++ (load 1 mem 0 ++ (plus 0 0 1 ++ save 0 mem 1))) ≡ 1
  pub less_at_last : of (load 0 mem 0 ++ (load 1 mem 1 ++ (plus 0 0 1 ++ (save 0 mem 2 ++ (load_const 0 0 ++ save 0 mem 0))))) ≡ 2
  pub after_a_label : of (load_const 0 0 ++ (save 0 mem 0 ++ (label 7 ++ (load_const 1 0 ++ save 1 mem 0)))) ≡ 1
  pub both_halves : of (load_complex 0 1 mem 0 ++ (plus 0 0 1 ++ save 0 mem 2)) ≡ 2
  pub one_half : of (load_complex 0 1 mem 0 ++ save 1 mem 2) ≡ 1
  pub no_half : of (load_complex 0 1 mem 0) ≡ 0
  pub named_only : of (load_const 256 0 ++ (mov 257 256 ++ save 257 mem 0)) ≡ 0
  -- whether any record has a Gen source
  pub no_records : no_gen_source [] ≡ true
  pub only_written : no_gen_source (load_const 0 0 ++ load_const 1 0) ≡ true
  pub named_sources : no_gen_source (load_const 0 0 ++ (plus 0 256 257 ++ save 259 mem 0)) ≡ true
  pub at_first : no_gen_source (save 0 mem 0 ++ load_const 0 0) ≡ false
  pub at_last : no_gen_source (load_const 0 0 ++ save 255 mem 0) ≡ false
  pub second_word : no_gen_source (plus 0 256 1 ++ load_const 0 0) ≡ false
