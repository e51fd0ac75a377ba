-- A link that came goes on at once, or is given back.
use Rattle.srv_door.proofs.HallLemmas.{at-next, at-out, at-ready, coming-out}
use Rattle.srv_door.proofs.door_next.receive.Goals as goal

pub admit-requires-clause-out : goal.admit-requires-clause-out
admit-requires-clause-out g c =
    coming-out c.args.link c.requires.coming.before (g.D.Door.shown c.args.door.now).held c.requires.coming.came

pub admit-requires-clause-fresh : goal.admit-requires-clause-fresh
admit-requires-clause-fresh g c = c.requires.coming.unused

pub proceed-requires-clause-ready : goal.proceed-requires-clause-ready
proceed-requires-clause-ready g c =
    let come = c.requires.coming in
    at-ready (c.in-Some.ensures.at come.first come.before come.views come.at come.next come.came)

pub proceed-requires-clause-out : goal.proceed-requires-clause-out
proceed-requires-clause-out g c = λ there.
    let come = c.requires.coming in
    at-out c.in-Some.key (c.in-Some.ensures.at come.first come.before come.views come.at come.next come.came) there

pub returns-in-Some-clause-at : goal.returns-in-Some-clause-at
returns-in-Some-clause-at g c = λ first before views at next came.
    at-next c.in-Some.ensures.same (c.proceed.ensures.at first views)
    (c.in-Some.ensures.at first before views at next came)
