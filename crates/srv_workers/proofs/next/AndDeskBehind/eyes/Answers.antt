use Rattle.std.proofs.Common.{◌∙◌, List, ◌∷◌, ap, arith, length, subst, sym}
use Rattle.fm_model.specs.declared.proto.Proto.{Proto}
use Rattle.srv_many.specs.Several.{Rowed, views_in}
use Rattle.srv_workers.specs.Desks.{IsUnseen}
use Rattle.srv_workers.proofs.BothLemmas.{all-protos, count-all}
use Rattle.srv_workers.proofs.next.AndDeskBehind.eyes.Goals as goal

-- the prototypes are those of the row, and few
pub of-requires-clause-protos : goal.of-requires-clause-protos
of-requires-clause-protos g c =
    c.requires.protos ∙ all-protos g.N.Name.proto g.X.Desks.means.them
    ∙ ap (λ (l : List Proto). g.N.Name.proto ∷ l) (sym (c.know.ensures.protos c.args.passes.others))

pub of-requires-clause-few : goal.of-requires-clause-few
of-requires-clause-few g c = omega (
  arith,
  c.requires.few,
  ap (λ (l : List Proto). length l) (c.requires.protos ∙ all-protos g.N.Name.proto g.X.Desks.means.them),
  count-all g.N.Name.proto g.X.Desks.means.them,
)

-- they see what the row has seen
pub returns : goal.returns
returns g c = subst (λ (row : Rowed). IsUnseen (views_in row)) (sym c.of.ensures) c.requires.unseen
