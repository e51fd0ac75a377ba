-- No files have no maps.
use Rattle.fm_edition.proofs.IndexLemmas.{IsIndexed-none}
use Rattle.fm_edition.proofs.maps.Edition.empty.Goals as goal

pub invariant_of-result : goal.invariant_of-result
invariant_of-result c = rw c.new.ensures (IsIndexed-none c.args.proto c.nothing.result c.in_ok-index.index
    c.requires c.nothing.ensures c.in_ok-index.ensures)
