-- `words::optimize_words` meets its contract: what is answered and left goes by the verdict, which is the records' once questions 1 to 4 pass.
-- By what the start of an operation knows of its verdict.
use Prim.Native.Nat.{ℕ}
use mathlib.Core.Bool.{Bool}
use mathlib.Core.List.{List}
use mathlib.Core.Path.{◌≡◌, sym, ap, ◌∙◌}
use lib.ListN.{length}
use Rattle.std.specs.Prelude.{min}
use Rattle.mir.proofs.Asked.{passed_on}
use Rattle.walks.specs.Lent.{Lent, lent}
use Rattle.walks.proofs.Leaves.{leaves_refused}
use Rattle.allocator.specs.Optimize.{room_for, room_in_words}
use Rattle.allocator.proofs.Promise.{decided_words, enough_words, promised_words, started, stopped}
use Rattle.allocator.proofs.words.optimize_words.Goals as goal

-- the shorter slice was counted
counted : (list table : List ℕ) (held : Lent) {n : ℕ} {room : Bool} → n ≡ min (length held.colours) (length held.ends)
    → room ≡ room_for (length list) (length table) (length held.out) n (length held.set) → room ≡ room_in_words list table held
unfolding room_in_words
counted list table held m r = r ∙ ap (λ k. room_for (length list) (length table) (length held.out) k (length held.set)) m

pub reduce-requires : goal.reduce-requires
reduce-requires c =
    let s = started _ c.args.settings c.args.list.now c.args.table.now (sym c.in_ok-check_start.ensures) in
    let held = lent c.args.out.now c.args.colours.now c.args.ends.now c.args.set.now in
    let room = counted c.args.list.now c.args.table.now held c.min.ensures c.has_room-room.ensures in
    record { started = s.anyway; roomy = enough_words c.args.settings c.args.list.now c.args.table.now held (sym room ∙ s.room_is) }

pub returns : goal.returns
returns c =
    let s = started _ c.args.settings c.args.list.now c.args.table.now (sym c.in_ok-check_start.ensures) in
    promised_words _ _ _ _ (rw (decided_words _ _ _ _ (counted _ _ _ c.min.ensures c.has_room-room.ensures) s.verdict_is) c.reduce.ensures)

pub returns-in_err-check_start : goal.returns-in_err-check_start
returns-in_err-check_start c =
    let v = stopped _ c.args.settings c.args.list.now c.args.table.now (sym c.in_err-check_start.ensures) in
    rw (passed_on c.from_residual.result c.from_residual.ensures.1)
    (promised_words _ _ _ _ (leaves_refused _ _ _ _ (decided_words _ _ _ _ (counted _ _ _ c.min.ensures c.has_room-room.ensures) v)))
