-- The steps change the collection alone, so the link is as it was.
use Rattle.std.proofs.Common.{inl}
use Rattle.srv_alone.proofs.ChangeLemmas.{Collects-done, Collects-made, steps_leave}
use Rattle.srv_alone.proofs.collecting.collect.Goals as goal

pub returns-in-Done-clause-done : goal.returns-in-Done-clause-done
returns-in-Done-clause-done g c =
    let opened = c.in-Ok.ensures in
    Collects-done c.requires.changes c.in-Done.is c.into_plain.ensures
    (Collects-made _ _ c.requires.changes opened.opens opened.same opened.plain opened.session c.do_steps-end.ensures)

pub returns-in-Done-clause-unused : goal.returns-in-Done-clause-unused
returns-in-Done-clause-unused g c =
    (steps_leave c.args.steps.now _ _ _ _ c.requires.changes c.do_steps-end.ensures).link_is

pub returns-in_default : goal.returns-in_default
returns-in_default g c =
    let opened = c.in-Ok.ensures in
    record {
      done = tt;
      stops = inl (record {
        history = c.do_steps-end.new.service.plain;
        collects = Collects-made _ _ c.requires.changes opened.opens opened.same opened.plain opened.session
            c.do_steps-end.ensures;
        stops = λ is. c.in_default.not-Done is;
      });
      unused = (steps_leave c.args.steps.now _ _ _ _ c.requires.changes c.do_steps-end.ensures).link_is;
    }
