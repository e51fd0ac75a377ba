use Rattle.std.proofs.Common.{◌∙◌, List, ◌∷◌, ap, subst, sym}
use Rattle.fm_model.specs.declared.proto.Proto.{Proto}
use Rattle.srv_many.specs.Several.{Rowed, views_in}
use Rattle.srv_workers.specs.Both.{first_then, rowed_with}
use Rattle.srv_workers.specs.Desks.{LearnsEach}
use Rattle.srv_workers.proofs.both.AndDeskDesks.learn_all.Goals as goal

-- the prototypes are still those of the passes
pub invariant_of-eyes : goal.invariant_of-eyes
invariant_of-eyes g c = (
  c.eyes.invariant.0 ∙ ap (λ (l : List Proto). g.N.Name.proto ∷ l)
      (c.know.ensures.protos c.eyes.inside.passes.others
      ∙ sym (c.know.ensures.protos c.learn_passes.new.passes.others)),
  c.eyes.invariant.1,
)

-- each has learnt its log
pub returns-clause-learns : goal.returns-clause-learns
returns-clause-learns g c =
    subst (λ (row : Rowed). LearnsEach _ (first_then c.args.all.now.first (g.X.Desks.told c.args.all.now.others))
    (views_in row) (views_in (rowed_with g.N.Name.proto g.X.Passes.Row.known c.learn_passes.new.passes)))
    c.eyes.view_is c.learn_passes.ensures.learns
