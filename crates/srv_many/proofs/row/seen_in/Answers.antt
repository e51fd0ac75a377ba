-- The number seen by the one of an index.
use Rattle.std.proofs.Common.{[]}
use Rattle.srv_many.proofs.RowLemmas.{nth-get}
use Rattle.srv_many.proofs.row.seen_in.Goals as goal

pub returns : goal.returns
returns g c = cc (
  c.seen.ensures.number,
  nth-get g.K.Look.log [] c.args.looks.now c.args.index c.index-looks-index.result c.requires,
  c.index-looks-index.is,
)
