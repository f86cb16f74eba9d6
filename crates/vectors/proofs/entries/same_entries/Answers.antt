-- `entries::same_entries` meets its contract: it stops at the first entry that differs, and else has passed all.
-- By what stands at each place of the entries.
use Rattle.std.proofs.Common.{◌≡◌, sym, ap, ◌∙◌, arith, refl}
use Rattle.allocator.specs.declared.statics.Static.{Static}
use Rattle.vectors.proofs.Places.{same_next, all_same, same_at}
use Rattle.vectors.proofs.entries.same_entries.Goals as goal

pub loop-k-init : goal.loop-k-init
loop-k-init c = λ j l. absurd (omega arith)

pub returns-then-s-colours : goal.returns-then-s-colours
returns-then-s-colours c =
    let ss = c.args.statics.now in (
      λ t. cc,
      λ e.
          absurd
          (c.if-s-colours.true
          (ap (λ (s : Static). s.colour) (same_at ss c.args.colours.now c.args.ends.now c.requires.colours_room c.requires.ends_room e c.loop-k.k (omega arith)))),
    )

pub returns-then-s-ends : goal.returns-then-s-ends
returns-then-s-ends c =
    let ss = c.args.statics.now in (
      λ t. cc,
      λ e.
          absurd
          (c.if-s-ends.true
          (ap (λ (s : Static). s.end) (same_at ss c.args.colours.now c.args.ends.now c.requires.colours_room c.requires.ends_room e c.loop-k.k (omega arith)))),
    )

pub loop-k-preserved : goal.loop-k-preserved
loop-k-preserved c =
    same_next c.args.statics.now c.args.colours.now c.args.ends.now c.loop-k.k c.loop-k.invariant c.if-s-colours.false c.if-s-ends.false

pub returns : goal.returns
returns c = (
  λ t. all_same c.args.statics.now c.args.colours.now c.args.ends.now c.requires.colours_room c.requires.ends_room c.loop-k.invariant (omega arith),
  λ e. refl,
)
