-- The set holds the new name when the list does.
use Rattle.std.proofs.Common.{map}
use Rattle.std.proofs.lemmas.List.{map-append}
use Rattle.nc_header.proofs.NameLemmas.{HoldsNames-push}
use Rattle.nc_header.proofs.found.Found.push.Goals as goal

pub invariant_of-self-2 : goal.invariant_of-self-2
invariant_of-self-2 g c =
    let after = HoldsNames-push c.self.inside.names c.insert.new.self
    (map g.T.Named.name_of c.self.inside.items.items) c.args.name c.self.invariant c.in_ok-insert.ensures.updates in
    rw (c.push_reserved.ensures.items, c.in_ok-reserve.ensures.items, map-append, c.requires) after
