-- Asking for room keeps the desk's side of the rule.
use Rattle.pub_snap.proofs.desk.Desk.make_room.Goals as goal

pub invariant_of-self : goal.invariant_of-self
invariant_of-self g c =
    let is = c.self.invariant in
    let kept = c.make_room.ensures.kept c.self.inside.front.seen.log c.self.inside.total.total is.2 in
    (is.0, is.1, kept, is.3, is.4, is.5)
