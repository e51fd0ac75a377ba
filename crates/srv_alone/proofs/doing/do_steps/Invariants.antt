-- The steps that are left, done from here, are all steps done from the start.
use Rattle.srv_alone.specs.Steps.{progress, RestsUnlessEnded}
use Rattle.srv_alone.proofs.StepLemmas.{AreLeft}
use Rattle.srv_alone.proofs.doing.do_steps.Given as goal

abbrev pub invariant-loop-step : goal.invariant-loop-step
invariant-loop-step g l = record {
  left : AreLeft l.steps
      (progress (g.F.Files.shown l.fn.files) l.fn.service.plain l.fn.service.session (g.L.Link.shown l.fn.link))
      l.step-index
      (progress (g.F.Files.shown l.files) l.service.plain l.service.session (g.L.Link.shown l.link));
  stands : RestsUnlessEnded l.service.session;
}
