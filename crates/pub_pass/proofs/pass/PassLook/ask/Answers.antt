-- What is seen at the look goes on from all that was known.
use Rattle.std.proofs.Common.{subst, IfSome}
use Rattle.pub_look.specs.History.{Continues}
use Rattle.pub_pass.proofs.pass.PassLook.ask.Goals as goal

pub returns-clause-later : goal.returns-clause-later
returns-clause-later g c =
    rw (← c.self.view_is)
    (subst (λ o. IfSome o (λ found. Continues c.self.inside.front.seen.log found.0.seen.log)) c.in-Some-found.is
    c.meet_and_look-seat.ensures.later)
