-- A length that isn't 1 makes the product another.
use Rattle.nc_model.specs.Layout.{size_at}
use Rattle.fm_load.proofs.LengthLemmas.{one-less}
use Rattle.fm_load.proofs.lengths.has_one_element.Goals as goal

pub returns-then-size_at-ne1 : goal.returns-then-size_at-ne1
returns-then-size_at-ne1 c =
    one-less (size_at c.args.header.now) c.args.ids.now c.loop-id.id-index c.size_at.result
    c.loop-id-test.true c.size_at.ensures c.loop-id.invariant c.if-size_at-ne1.true
