use Rattle.passes.proofs.Told.{named_told, mem_told, param_told, stack_told, gen_untold, stack_untold}
use Rattle.passes.proofs.laws.ends_told.Goals as goal

pub returns : goal.returns
returns g c =
    record {
      named = named_told;
      mem = mem_told;
      param = param_told;
      stack = stack_told;
      gen = gen_untold;
      beyond = stack_untold;
    }
