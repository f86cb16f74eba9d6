use native.Mathlib.Omega.{arith}
use Rattle.colours.proofs.MaskTold.{masked_there}
use Rattle.colours.proofs.laws.masks_told.Goals as goal

pub returns : goal.returns
returns c =
    record {
      at_four = λ m h.
          record {
            held_0 = h.held 0;
            held_1 = h.held 1;
            held_2 = h.held 2;
            held_63 = h.held 63;
            free_0 = h.free 0 (omega arith);
            free_1 = h.free 1 (omega arith);
            free_2 = h.free_within 2 (omega arith);
            free_63 = h.free_within 63 (omega arith);
          };
      at_two = λ m h. h.free 1 (omega arith);
      at_three = λ m h. h.free 1 (omega arith);
      at_five = λ m h. h.free 0 (omega arith);
      there = masked_there;
    }
