-- Where there is one collection, all that is seen is seen of it.
use Rattle.srv_door.proofs.LinkLemmas.{door-of-one}
use Rattle.srv_door.proofs.laws.a_door_of_one_collection_serves_each_link.Goals as goal

pub returns : goal.returns
returns g c = door-of-one g.D.L.Link.shown
