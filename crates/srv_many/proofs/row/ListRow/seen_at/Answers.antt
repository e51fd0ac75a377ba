-- The number seen by the one at an index of a list.
use Rattle.std.proofs.Common.{◌∙◌, [], List, length, map, ap}
use Rattle.srv_many.specs.Several.{nth}
use Rattle.srv_many.proofs.row.ListRow.seen_at.Goals as goal

pub returns : goal.returns
returns g c =
    c.seen_in.ensures ∙ ap (λ (l : List _). length (nth [] (map g.K.Look.log l) c.args.index)) c.as_slice.ensures
