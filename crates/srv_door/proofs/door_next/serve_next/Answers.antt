-- A link came or may go on, or the door closed or failed.
use Rattle.srv_door.proofs.HallLemmas.{at-ready}
use Rattle.srv_door.proofs.NextLemmas.{at-same, came-after, came-fresh, came-next, closed-held, closed-left, out-same, ready-held}
use Rattle.srv_door.proofs.door_next.serve_next.Goals as goal

pub receive-requires-clause-coming : goal.receive-requires-clause-coming
receive-requires-clause-coming g c = record {
  first = c.requires.at.door;
  before = (g.D.Door.shown c.args.door.now).held;
  views = c.requires.at.views;
  at = c.requires.at.at;
  next = came-next _ c.in-Ok-Came.field-0-is c.in-Ok-Came.ensures.next;
  came = came-after _ _ c.in-Ok-Came.field-0-is c.in-Ok-Came.ensures.came;
  unused = came-fresh _ c.in-Ok-Came.field-0-is c.in-Ok-Came.ensures.fresh;
}

pub returns-in-Ok-Came-clause-at : goal.returns-in-Ok-Came-clause-at
returns-in-Ok-Came-clause-at g c = λ first views at.
    c.receive.ensures.at first (g.D.Door.shown c.args.door.now).held views at
    (came-next _ c.in-Ok-Came.field-0-is c.in-Ok-Came.ensures.next)
    (came-after _ _ c.in-Ok-Came.field-0-is c.in-Ok-Came.ensures.came)

pub proceed-requires-clause-ready : goal.proceed-requires-clause-ready
proceed-requires-clause-ready g c = at-ready c.requires.at.at

pub proceed-requires-clause-out : goal.proceed-requires-clause-out
proceed-requires-clause-out g c = λ there.
    out-same c.in-Ok-Ready.key (ready-held c.in-Ok-Ready.field-0-is c.in-Ok-Ready.ensures.came) c.requires.at.at there

pub returns-in-Ok-Ready-clause-at : goal.returns-in-Ok-Ready-clause-at
returns-in-Ok-Ready-clause-at g c = λ first views at.
    c.proceed.ensures.at first views (at-same (ready-held c.in-Ok-Ready.field-0-is c.in-Ok-Ready.ensures.came) at)

pub returns-in-Ok-Closed-clause-at : goal.returns-in-Ok-Closed-clause-at
returns-in-Ok-Closed-clause-at g c = λ first views at.
    at-same (closed-held c.in-Ok-Closed.field-0-is c.in-Ok-Closed.ensures.came) at

pub returns-in-Ok-Closed-clause-closed : goal.returns-in-Ok-Closed-clause-closed
returns-in-Ok-Closed-clause-closed g c = λ _.
    closed-left (g.D.Door.shown c.args.door.now).held _ c.in-Ok-Closed.field-0-is
    c.in-Ok-Closed.ensures.next c.in-Ok-Closed.ensures.came

pub returns-in-Err-clause-at : goal.returns-in-Err-clause-at
returns-in-Err-clause-at g c = λ first views at. at-same c.in-Err.ensures.err at
