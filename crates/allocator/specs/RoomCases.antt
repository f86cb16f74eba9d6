-- Public: question 4's limits, each slice just long enough, and each short by one word or entry; and lists of colours and ends as entries.
-- That 4 is said at 0, after 1 to 3, is a limit of crate mir.
use Rattle.std.specs.Prelude.{◌≡◌, true, false, [], ◌∷◌}
use Rattle.mir.specs.Shapes.{row}
use Rattle.walks.specs.Lent.{lent}
use Rattle.allocator.specs.Optimize.{lent_statics, room_for, room_in, room_in_words}
use Rattle.allocator.specs.Statics.{entry, entries}

-- three records and three pairs, by their numbers; then a record and a pair
pub record RoomCases : Type 0 where
  pub enough : room_for 24 6 24 6 18 ≡ true
  pub out : room_for 24 6 23 6 18 ≡ false
  pub statics : room_for 24 6 24 5 18 ≡ false
  pub set : room_for 24 6 24 6 17 ≡ false
  pub nothing : room_for 0 0 0 0 0 ≡ true
  pub all_in :
      room_in (row 0 0 0 0 0 0 0 0) (1 ∷ 2 ∷ [])
      (lent_statics (row 1 2 3 4 5 6 7 8) (entry 1 2 ∷ entry 3 4 ∷ []) (1 ∷ 2 ∷ 3 ∷ 4 ∷ 5 ∷ 6 ∷ []))
      ≡ true
  pub one_static :
      room_in (row 0 0 0 0 0 0 0 0) (1 ∷ 2 ∷ []) (lent_statics (row 1 2 3 4 5 6 7 8) (entry 1 2 ∷ []) (1 ∷ 2 ∷ 3 ∷ 4 ∷ 5 ∷ 6 ∷ []))
      ≡ false
  pub short_set :
      room_in (row 0 0 0 0 0 0 0 0) (1 ∷ 2 ∷ [])
      (lent_statics (row 1 2 3 4 5 6 7 8) (entry 1 2 ∷ entry 3 4 ∷ []) (1 ∷ 2 ∷ 3 ∷ 4 ∷ 5 ∷ []))
      ≡ false
  pub all_words :
      room_in_words (row 0 0 0 0 0 0 0 0) (1 ∷ 2 ∷ [])
      (lent (row 1 2 3 4 5 6 7 8) (1 ∷ 2 ∷ []) (3 ∷ 4 ∷ []) (1 ∷ 2 ∷ 3 ∷ 4 ∷ 5 ∷ 6 ∷ []))
      ≡ true
  pub one_colour :
      room_in_words (row 0 0 0 0 0 0 0 0) (1 ∷ 2 ∷ [])
      (lent (row 1 2 3 4 5 6 7 8) (1 ∷ []) (3 ∷ 4 ∷ 5 ∷ []) (1 ∷ 2 ∷ 3 ∷ 4 ∷ 5 ∷ 6 ∷ []))
      ≡ false
  pub one_end :
      room_in_words (row 0 0 0 0 0 0 0 0) (1 ∷ 2 ∷ [])
      (lent (row 1 2 3 4 5 6 7 8) (1 ∷ 2 ∷ 3 ∷ []) (3 ∷ []) (1 ∷ 2 ∷ 3 ∷ 4 ∷ 5 ∷ 6 ∷ []))
      ≡ false

-- a colour stands before its end
pub record EntryCases : Type 0 where
  pub none : entries [] [] ≡ []
  pub two : entries (7 ∷ 8 ∷ []) (1 ∷ 2 ∷ []) ≡ entry 7 1 ∷ entry 8 2 ∷ []
