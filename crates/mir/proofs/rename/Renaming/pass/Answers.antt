-- `mir::rename::Renaming::pass` meets its contract: the statics that the registers hold are among those that there are.
use Rattle.mir.proofs.Renaming.{known_renamed}
use Rattle.mir.proofs.rename.Renaming.pass.Goals as goal

pub invariant_of-self : goal.invariant_of-self
invariant_of-self c =
    record { known = rw (c.rename.ensures.regs, c.rename.ensures.next) (known_renamed c.args.rec.now c.args.self.now.statics c.args.self.now.regs c.args.self.now.known) }
