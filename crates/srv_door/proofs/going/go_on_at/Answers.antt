-- A link that waits is put in again under its key, and one whose session has ended is given back.
use Rattle.std.proofs.Common.{◌+◌, ℕ, Some, refl, sym, ap, ◌∙◌}
use Rattle.srv_door.proofs.AtKey.{at-removed, at-rested, updates-still}
use Rattle.srv_conn.proofs.ViewLemmas.{behind-itself}
use Rattle.srv_door.proofs.NextLemmas.{held-same, updates-same}
use Rattle.srv_conn.proofs.OutSteps.{out-same}
use Rattle.srv_door.proofs.going.go_on_at.Goals as goal

pub go_on-requires-clause-ready : goal.go_on-requires-clause-ready
go_on-requires-clause-ready g c =
    c.requires.ready c.args.key _ (c.remove-kept.ensures.value ∙ ap Some (sym c.in-Ok.ensures.ok))

-- no memory for a session: nothing was done
pub returns-in-Err-clause-at : goal.returns-in-Err-clause-at
returns-in-Err-clause-at g c = λ first views at.
    at-rested first (g.D.Door.shown c.args.door.now).held (g.D.Door.shown c.rested-rested.new.door).held views _ _
    c.args.hall.now _ c.remove-kept.new.self c.args.key c.insert_reserved.result _ c.in-Err.kept
    c.rested-rested.result.link at (c.remove-kept.ensures.value ∙ ap Some (sym c.in-Err.ensures.err))
    (λ start own out. out-same (g.K.Looks.views c.args.looks.now)
    own c.in-Err.kept out)
    (behind-itself (g.K.Looks.them c.args.looks.now) (g.K.Looks.views c.args.looks.now).seen)
    c.rested-rested.ensures.same_link (held-same c.rested-rested.ensures.same_door) c.remove-kept.ensures.updates
    c.remove-kept.ensures.len (c.insert_reserved.ensures.key ∙ c.remove-kept.ensures.key_is_next)
    (updates-same c.rested-rested.ensures.kept c.insert_reserved.ensures.updates)
    c.insert_reserved.ensures.len refl refl

pub returns-in-None-clause-at : goal.returns-in-None-clause-at
returns-in-None-clause-at g c = λ first views at.
    at-rested first (g.D.Door.shown c.args.door.now).held (g.D.Door.shown c.rest.new.self).held views _ _
    c.args.hall.now _ c.remove-kept.new.self c.args.key c.insert_reserved-in-None.result _ _ c.rest.new.link at
    (c.remove-kept.ensures.value ∙ ap Some (sym c.in-Ok.ensures.ok)) c.in-None.ensures.went c.in-None.ensures.later
    c.rest.ensures.same_link (held-same c.rest.ensures.same_door) c.remove-kept.ensures.updates
    c.remove-kept.ensures.len (c.insert_reserved-in-None.ensures.key ∙ c.remove-kept.ensures.key_is_next)
    (updates-same c.new-kept.ensures c.insert_reserved-in-None.ensures.updates)
    c.insert_reserved-in-None.ensures.len refl refl

pub returns-in-Some-clause-at : goal.returns-in-Some-clause-at
returns-in-Some-clause-at g c = λ first views at.
    at-removed first (g.D.Door.shown c.args.door.now).held (g.D.Door.shown c.done.new.self).held views _ _
    c.args.hall.now c.count.new.self c.give_back.new.links c.args.key _ _ c.in-Some.end at
    (c.remove-kept.ensures.value ∙ ap Some (sym c.in-Ok.ensures.ok)) c.in-Some.ensures.went c.in-Some.ensures.later
    (updates-still c.remove-kept.ensures.updates c.give_back.ensures.values)
    (ap (λ (n : ℕ). n + 1) c.give_back.ensures.len ∙ c.remove-kept.ensures.len) c.count.ensures.links
    c.count.ensures.served c.count.ensures.short c.done.ensures.given
