-- A link is taken in, or given back at once.
use Rattle.std.proofs.Common.{refl, ◌∙◌}
use Rattle.srv_door.proofs.NextLemmas.{slots-same, updates-same}
use Rattle.srv_door.proofs.HallLemmas.{reserved, reserved-len, reserved-vacant}
use Rattle.srv_door.proofs.coming.admit.Goals as goal
use Rattle.srv_door.proofs.ComingLemmas.{at-admitted, at-alone}

pub returns-in-Ok-clause-at : goal.returns-in-Ok-clause-at
returns-in-Ok-clause-at g c = λ first before views at next came.
    at-admitted first before (g.D.Door.shown c.args.door.now).held views _ _ c.args.hall.now _
    c.insert_reserved-taken.result c.args.link _ at next came c.requires.fresh refl c.in-Ok.ensures.session refl
    c.in-Ok.ensures.revisions c.in-Ok.ensures.later c.in-Ok.ensures.looked
    (reserved-vacant c.args.hall.now.links _ _ _ _ c.in-Ok.ensures.links c.insert_reserved-taken.ensures.was_vacant)
    (reserved c.in-Ok.ensures.links (updates-same c.new-kept.ensures c.insert_reserved-taken.ensures.updates))
    (reserved-len c.args.hall.now.links _ _ _ c.in-Ok.ensures.links c.insert_reserved-taken.ensures.len) refl refl

pub returns-in-Err-clause-at : goal.returns-in-Err-clause-at
returns-in-Err-clause-at g c = λ first before views at next came.
    at-alone first before (g.D.Door.shown c.args.door.now).held _ views _ _ c.args.hall.now _ c.args.link at next came
    c.requires.fresh c.in-Err.ensures.later c.in-Err.ensures.err
    (slots-same (c.count.ensures.links ∙ c.in-Err.ensures.links))
    c.count.ensures.served c.count.ensures.short c.done.ensures.given
