-- `walks::reduce` meets its contract: the verdict decides between what the walks leave and nothing.
-- The part of the set's slice suffices, and what is written over the part is written over the whole.
use Rattle.std.proofs.Common.{true, sym, ap, ◌∙◌, arith, length-take, ℕ}
use Rattle.mir.specs.Answers.{left}
use Rattle.mir.proofs.Passing.{start_passes, well_sized_lem}
use Rattle.passes.specs.Create.{ends_of}
use Rattle.walks.proofs.Leaves.{leaves_passed}
use Rattle.walks.proofs.Walks.{again, over_begin, passing_after}
use Rattle.walks.proofs.reduce.Goals as goal

pub create-requires-clause-few : goal.create-requires-clause-few
create-requires-clause-few c = (start_passes true c.args.settings _ _ c.requires.started).few

pub reduce_sized-requires-clause-passing : goal.reduce_sized-requires-clause-passing
reduce_sized-requires-clause-passing c = passing_after _ _ _ c.requires.started (sym c.in_ok-create.ensures.answer)

pub reduce_sized-requires-clause-fits : goal.reduce_sized-requires-clause-fits
reduce_sized-requires-clause-fits c =
    let passing = passing_after _ _ _ c.requires.started (sym c.in_ok-create.ensures.answer) in
    let r = c.requires.roomy in
    record {
      for_out = r.for_out;
      for_colours = r.for_colours;
      for_ends = omega (arith, r.for_ends, c.create.auto.ends);
      for_set = omega (arith, r.for_set, c.set_words-words.ensures.most, c.set_words-words.ensures.members c.args.settings passing, length-take {A = ℕ});
    }

pub reduce_sized-requires-clause-few : goal.reduce_sized-requires-clause-few
reduce_sized-requires-clause-few c =
    omega (arith, well_sized_lem _ _ (start_passes true c.args.settings _ _ c.requires.started).sized, length-take {A = ℕ})

pub returns : goal.returns
returns c =
    let passed = sym c.in_ok-create.ensures.answer in
    let made = c.in_ok-create.ensures.ends ∙ ap (λ v. left v (ends_of c.args.list.now) c.args.ends.now) passed in
    let q = c.reduce_sized.ensures in
    leaves_passed _ _ _ _ passed
    record {
      counts = q.counts;
      out = q.out;
      colours = q.colours;
      ends = again (ends_of c.args.list.now) (ends_of c.args.list.now) c.args.ends.now (omega arith) made q.ends;
      set = over_begin _ c.args.set.now _ q.set c.reduce_sized.auto.set;
    }
