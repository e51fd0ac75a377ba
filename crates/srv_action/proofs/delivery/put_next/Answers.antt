-- The put bytes are a front of those that are left.
use Rattle.std.proofs.Common.{drop, arith}
use Rattle.std.proofs.lemmas.List.{length-drop}
use Rattle.dap_reply.specs.Parts.{bytes_of}
use Rattle.srv_action.proofs.DeliveryLemmas.{put-piece, room-front, within-piece}
use Rattle.srv_action.proofs.delivery.put_next.Goals as goal

pub returns-clause-within : goal.returns-clause-within
returns-clause-within g c =
    let bytes = drop c.args.from (bytes_of c.args.plan.now) in
    within-piece c.put.result bytes c.split_at.result.0.now
    (room-front bytes c.split_at_mut-part.result.0.now c.piece-count.new.out c.split_at.result.0.now
    c.piece-count.result
    (omega (arith, c.piece-count.ensures.count, length-drop c.args.from (bytes_of c.args.plan.now)))
    c.piece-count.ensures.bytes c.split_at.ensures.front)
    c.put.ensures.within

pub returns-clause-put : goal.returns-clause-put
returns-clause-put g c =
    let bytes = drop c.args.from (bytes_of c.args.plan.now) in
    put-piece c.put.result bytes c.split_at.result.0.now (g.L.Link.shown c.args.link.now).held
    (g.L.Link.shown c.put.new.self).held
    (room-front bytes c.split_at_mut-part.result.0.now c.piece-count.new.out c.split_at.result.0.now
    c.piece-count.result
    (omega (arith, c.piece-count.ensures.count, length-drop c.args.from (bytes_of c.args.plan.now)))
    c.piece-count.ensures.bytes c.split_at.ensures.front)
    c.put.ensures.within c.put.ensures.put
