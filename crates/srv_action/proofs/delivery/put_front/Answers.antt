-- What is put of a front is put of all the bytes.
use Rattle.srv_action.proofs.DeliveryLemmas.{front-of, put-piece, within-piece}
use Rattle.srv_action.proofs.delivery.put_front.Goals as goal

pub returns-clause-within : goal.returns-clause-within
returns-clause-within g c = within-piece c.put.result c.args.bytes.now c.split_at.result.0.now
    (front-of c.min.result c.args.bytes.now c.split_at.result.0.now c.split_at.ensures.front) c.put.ensures.within

pub returns-clause-put : goal.returns-clause-put
returns-clause-put g c = put-piece c.put.result c.args.bytes.now c.split_at.result.0.now
    (g.L.Link.shown c.args.link.now).held (g.L.Link.shown c.put.new.self).held
    (front-of c.min.result c.args.bytes.now c.split_at.result.0.now c.split_at.ensures.front) c.put.ensures.within
    c.put.ensures.put
