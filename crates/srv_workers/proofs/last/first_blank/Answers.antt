use Rattle.std.proofs.Common.{◌∙◌, List, ◌∷◌, ap, drop, sym}
use Rattle.pub_snap.specs.Opening.{Opening}
use Rattle.srv_workers.proofs.last.first_blank.Goals as goal

-- the others are those behind it
pub returns : goal.returns
returns c =
    c.take_off.ensures
    ∙ ap (λ (l : List Opening). c.take_off.result ∷ drop 1 l) (sym c.take_off.ensures)
