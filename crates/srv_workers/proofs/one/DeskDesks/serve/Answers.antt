use Rattle.std.proofs.Common.{◌∙◌, ap}
use Rattle.dap_reply.specs.Collections.{Collections}
use Rattle.srv_workers.proofs.OneLemmas.{serves-one}
use Rattle.srv_workers.proofs.one.DeskDesks.serve.Goals as goal

-- the pass is still of this desk
pub invariant_of-eyes : goal.invariant_of-eyes
invariant_of-eyes g c = (
  ap (λ (them : Collections). them.proto 0) c.serve_door_looks.ensures.same ∙ c.eyes.invariant.0,
  c.eyes.invariant.1,
)

-- the door was served over the only collection
pub returns : goal.returns
returns g c =
    serves-one g.D.Door.shown g.D.L.Link.shown g.N.Name.proto c.eyes.inside.pass c.args.eyes.now
    c.serve_door_looks.new.looks c.args.door.now c.serve_door_looks.new.door c.serve_door_looks.result
    c.eyes.invariant.0 c.eyes.view_is c.serve_door_looks.ensures.serves c.serve_door_looks.ensures.end
