-- A slab more lies within its dimension.
use Rattle.std.proofs.Common.{arith, sym, ◌∙◌}
use Rattle.dap_model.specs.ClauseFaults.{path_text}
use Rattle.dap_project.proofs.IndexLemmas.{all_countable, more_countable, range_end, range_step}
use Rattle.dap_project.proofs.check.check_range.Goals as goal

pub loop-at-preserved : goal.loop-at-preserved
loop-at-preserved c =
    let within = c.is_within.ensures in
    let slabs = c.args.slabs.now in
    record {
      fault = range_step (path_text c.args.path.now) c.args.dims.now slabs c.loop-at.at _ _
          (omega (arith, c.loop-at-test.true, c.requires)) c.loop-at-test.true
          (sym within.within ∙ c.if-not-is_within.false)
          ∙ c.loop-at.invariant.fault;
      countable = more_countable slabs c.loop-at.at _ c.loop-at-test.true c.loop-at.invariant.countable
          (within.countable c.if-not-is_within.false);
    }

pub returns-clause-fault : goal.returns-clause-fault
returns-clause-fault c =
    sym c.loop-at.invariant.fault
    ∙ range_end (path_text c.args.path.now) c.args.dims.now c.args.slabs.now c.loop-at.at c.loop-at-test.false

pub returns-clause-countable : goal.returns-clause-countable
returns-clause-countable c =
    all_countable c.args.slabs.now c.loop-at.at c.loop-at-test.false c.loop-at.invariant.countable
