-- `questions::branches::put_branch` meets its contract: no branch, a number that is there already, no place left, an empty place.
-- By the laws of a store at a place.
use Prim.Native.Nat.{◌<◌}
use native.Mathlib.Omega.{arith}
use mathlib.Core.Path.{sym, ◌∙◌}
use Rattle.questions.proofs.Targets.{goes_to, goes_nowhere, put_there, put_kept}
use Rattle.questions.proofs.branches.put_branch.Goals as goal

pub returns-in_default : goal.returns-in_default
returns-in_default c =
    let no = goes_nowhere _ c.target_of.ensures c.in_default.is in
    record { kept = λ number h. h; there = λ done b. cc; full = λ done p e. cc }

pub returns-then-is_in : goal.returns-then-is_in
returns-then-is_in c =
    let to = goes_to _ c.target_of.ensures c.in-Some.is in
    record {
      kept = λ number h. h;
      there = λ done b. rw to.1 (sym c.is_in.ensures ∙ c.if-is_in.true);
      full = λ done p e. cc;
    }

pub returns-in_default-find_room : goal.returns-in_default-find_room
returns-in_default-find_room c =
    let to = goes_to _ c.target_of.ensures c.in-Some.is in
    let full = rw c.in_default-find_room.is at c.find_room.ensures.room in
    record {
      kept = λ number h. h;
      there = λ done b. cc;
      full = λ done. rw (to.1, ← c.slot.ensures.is) (full.full (omega arith));
    }

pub returns : goal.returns
returns c =
    let to = goes_to _ c.target_of.ensures c.in-Some.is in
    let room = rw c.in-Some-find_room.is at c.find_room.ensures.room in
    let below : c.in-Some-find_room.p < 4096 = rw c.in-Some-find_room.is at c.find_room.ensures.below in
    let table = c.args.table.now in
    let len = c.requires in
    record {
      kept = put_kept table len _ below _ (room.free below);
      there = λ done b. rw to.1 (put_there table len _ below _ (room.inside below ∙ c.slot.ensures.is));
      full = λ done p e. cc;
    }
