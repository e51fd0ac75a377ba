-- Each step goes on from the one before, and the first that isn't done ends the run.
use Rattle.std.proofs.Common.{arith}
use Rattle.srv_alone.proofs.StepLemmas.{AreLeft-done, Does-ends, Does-done}
use Rattle.srv_alone.proofs.doing.do_steps.Goals as goal

pub returns-in-Err : goal.returns-in-Err
returns-in-Err g c = Does-ends _ _ (omega arith) c.step-item.is c.loop-step.invariant.left
    c.in-Err.ensures.ends c.step_path.ensures

pub loop-step-preserved : goal.loop-step-preserved
loop-step-preserved g c = record {
  left = AreLeft-done (omega arith) c.step-item.is c.loop-step.invariant.left
      c.in_default.ensures.done;
  stands = c.step.ensures.stands;
}

pub returns : goal.returns
returns g c = Does-done (omega arith) c.loop-step.invariant.left
