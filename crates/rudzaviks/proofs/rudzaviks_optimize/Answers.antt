-- `rudzaviks::rudzaviks_optimize` meets its contract: it answers as `optimize_words` does, or refuses where the counts have no room.
-- By the promise of either case.
use Prim.Native.Nat.{◌≤◌}
use mathlib.Core.Path.{refl}
use lib.ListN.{length}
use Rattle.mir.specs.Answers.{verdict_in}
use Rattle.mir.specs.declared.config.Settings.{Settings}
use Rattle.walks.specs.Lent.{Lent, lent}
use Rattle.allocator.specs.Optimize.{OptimizedWords}
use Rattle.file.specs.File.{settings_of}
use Rattle.rudzaviks.proofs.Optimize.{entry_answered, entry_short}
use Rattle.rudzaviks.proofs.rudzaviks_optimize.Goals as goal

pub returns-then-counts-lt-COUNTS : goal.returns-then-counts-lt-COUNTS
returns-then-counts-lt-COUNTS c =
    let verdict = rw c.settings_of-settings.ensures at c.check_start.ensures in
    rw c.verdict_word.ensures (entry_short (verdict_in c.check_start.result) c.if-counts-lt-COUNTS.true verdict)

pub returns-in-Ok : goal.returns-in-Ok
returns-in-Ok c =
    -- what the call was given
    let settings : Settings =
    settings_of c.args.count_regs c.args.args c.args.complex c.args.arm c.args.compress in
    let held : Lent =
    lent c.args.out.now c.args.colours.now c.args.ends.now c.args.set.now in
    let now_held : Lent =
    lent c.optimize_words.new.out c.optimize_words.new.colours c.optimize_words.new.ends c.optimize_words.new.set in
    let promised : OptimizedWords settings c.args.list.now c.args.table.now held now_held c.optimize_words.result =
    rw c.settings_of-settings.ensures at c.optimize_words.ensures in
    let room : 8 ≤ length c.args.counts.now =
    c.if-counts-lt-COUNTS.false in
    rw c.from.ensures (entry_answered room promised c.in-Ok.is c.write_counts.ensures)

pub returns-in-Err : goal.returns-in-Err
returns-in-Err c =
    -- what the call was given
    let settings : Settings =
    settings_of c.args.count_regs c.args.args c.args.complex c.args.arm c.args.compress in
    let held : Lent =
    lent c.args.out.now c.args.colours.now c.args.ends.now c.args.set.now in
    let now_held : Lent =
    lent c.optimize_words.new.out c.optimize_words.new.colours c.optimize_words.new.ends c.optimize_words.new.set in
    let promised : OptimizedWords settings c.args.list.now c.args.table.now held now_held c.optimize_words.result =
    rw c.settings_of-settings.ensures at c.optimize_words.ensures in
    let room : 8 ≤ length c.args.counts.now =
    c.if-counts-lt-COUNTS.false in
    rw c.refusal_word.ensures (entry_answered room promised c.in-Err.is refl)
