-- An empty set holds the names of no items.
use Rattle.nc_header.proofs.NameLemmas.{HoldsNames-empty}
use Rattle.nc_header.proofs.found.Found.new.Goals as goal

pub invariant_of-result : goal.invariant_of-result
invariant_of-result g c = rw c.new.ensures.items (HoldsNames-empty c.new-2.result c.new-2.ensures.empty)
