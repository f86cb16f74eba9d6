-- `questions::branches::empty` meets its contract: slot 0 holds another slot's number eight times, and the other slots hold zeros.
-- By place: what has been stored, and what is as it was.
use Prim.Native.Nat.{ℕ, ◌+◌, ◌-◌, ◌/◌, ◌<◌}
use mathlib.Core.List.{◌++◌}
use mathlib.Core.Path.{◌≡◌, sym, ap, ◌∙◌}
use native.Mathlib.Decide.{dec_lt}
use native.Mathlib.Omega.{arith}
use lib.ListN.{length, get_or, replicate, take, drop, length-replicate, get_or-append, get_or-replicate}
use lib.Seq.{length-take-le, get_or-append-add, get_or-drop}
use Rattle.questions.specs.Table.{slot_of}
use Rattle.questions.proofs.branches.empty.Goals as goal

pub returns : goal.returns
unfolding slot_of
returns c p l t = go (dec_lt p 8)
  where
    zeros : length c.args.table.now ≡ 4096
    zeros = rw c.requires (length-replicate {A = ℕ} 4096 0)

    long : length (take 8 c.args.table.now) ≡ 8
    long = length-take-le 8 c.args.table.now (omega (arith, zeros))

    filled : c.fill.new.self ≡ replicate 8 c.away.result
    filled = rw long at (c.fill.ensures.after (λ y e. e))

    eight : length c.fill.new.self ≡ 8
    eight = rw filled (length-replicate 8 c.away.result)

    go : Dec (p < 8) → ⊥
    go (yes m) =
        let here : get_or (c.fill.new.self ++ drop 8 c.args.table.now) p 0 ≡ c.away.result =
        get_or-append c.fill.new.self (drop 8 c.args.table.now) 0 p (omega (arith, eight)) ∙ rw filled (get_or-replicate 8 p c.away.result 0 m) in
        c.away.ensures (ap slot_of (sym here) ∙ (t ∙ omega arith))
    go (no g) =
        let past : length c.fill.new.self + (p - 8) ≡ p = omega (arith, eight, g) in
        let same : 8 + (p - 8) ≡ p = omega (arith, g) in
        let here : get_or (c.fill.new.self ++ drop 8 c.args.table.now) p 0 ≡ 0 =
        rw past at (get_or-append-add c.fill.new.self (drop 8 c.args.table.now) (p - 8) 0)
        ∙ (get_or-drop 8 c.args.table.now (p - 8) 0 ∙ rw (same, c.requires) (get_or-replicate {A = ℕ} 4096 p 0 0 l)) in
        let z : slot_of 0 ≡ p / 8 = rw here at t in
        omega (arith, z, g)
