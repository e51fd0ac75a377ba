use Rattle.std.proofs.Common.{◌∙◌, ℕ, suc, ◌<◌, List, ◌∷◌, Bool, false, ap, arith, sym}
use Rattle.fm_model.specs.declared.proto.Proto.{Proto}
use Rattle.srv_workers.specs.declared.both.OneOf.{OneOf}
use Rattle.srv_workers.specs.declared.both.OneOf.TheVariants.{Other, This}
use Rattle.srv_workers.specs.declared.one.OwnHand.{OwnHand}
use Rattle.srv_workers.specs.Both.{publisher_of}
use Rattle.srv_workers.specs.Desks.{Publisher}
use Rattle.srv_workers.proofs.BothLemmas.{all-protos}
use Rattle.srv_workers.proofs.next.AndDeskBehind.know.Goals as goal

-- that of the first desk, and those of the others
pub returns-clause-protos : goal.returns-clause-protos
returns-clause-protos g c passes =
    ap (λ (l : List Proto). g.N.Name.proto ∷ l) (c.know.ensures.protos passes.others)
    ∙ sym (all-protos g.N.Name.proto g.X.Desks.means.them)

pub returns-clause-stills : goal.returns-clause-stills
returns-clause-stills g c passes = ap (λ (l : List Bool). false ∷ l) (c.know.ensures.stills passes.others)

-- a hand is of the first desk, or of one of the others
within : {N H : Type 0} (count : ℕ) (publisher : H → Publisher) → ((hand : H) → (publisher hand).desk < count)
    → (hand : OneOf (OwnHand N) H) → (publisher_of publisher hand).desk < suc count
within count publisher others (This hand) = omega arith
within count publisher others (Other hand) = omega (arith, others hand)

pub returns-clause-within : goal.returns-clause-within
returns-clause-within g c = within g.X.Desks.means.them.count g.X.Desks.means.publisher c.know.ensures.within
