use Rattle.std.proofs.Common.{◌∙◌, List, ◌∷◌, ap, sym}
use Rattle.fm_model.specs.declared.proto.Proto.{Proto}
use Rattle.srv_workers.proofs.BothLemmas.{serves-all}
use Rattle.srv_workers.proofs.both.AndDeskDesks.serve.Goals as goal

-- the prototypes are those of the passes
pub serve_many_door-requires-clause-protos : goal.serve_many_door-requires-clause-protos
serve_many_door-requires-clause-protos g c = c.eyes.invariant.0

pub serve_many_door-requires-clause-few : goal.serve_many_door-requires-clause-few
serve_many_door-requires-clause-few g c = c.eyes.invariant.1

-- they still are
pub invariant_of-eyes : goal.invariant_of-eyes
invariant_of-eyes g c = (
  c.eyes.invariant.0 ∙ ap (λ (l : List Proto). g.N.Name.proto ∷ l)
      (c.know.ensures.protos c.eyes.inside.passes.others
      ∙ sym (c.know.ensures.protos c.serve_many_door.new.looks.others)),
  c.eyes.invariant.1,
)

-- the door was served over all collections
pub returns : goal.returns
returns g c =
    serves-all g.D.Door.shown g.D.L.Link.shown g.N.Name.proto g.X.Desks.means.them g.X.Passes.Row.known
    c.eyes.inside.passes c.serve_many_door.new.looks c.args.eyes.now c.args.door.now c.serve_many_door.new.door
    c.serve_many_door.result c.eyes.view_is (c.know.ensures.protos c.eyes.inside.passes.others)
    (c.know.ensures.stills c.eyes.inside.passes.others) c.serve_many_door.ensures.serves c.serve_many_door.ensures.end
