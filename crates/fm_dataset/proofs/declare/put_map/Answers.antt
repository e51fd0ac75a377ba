-- The coordinate variable of the dimension, as it is shown.
use Rattle.std.proofs.Common.{ap, sym}
use Rattle.std.specs.Prelude.{is_some}
use Rattle.fm_dataset.specs.Declarations.{array_of}
use Rattle.fm_dataset.proofs.CoordinateLemmas.{coordinates-none, coordinates-some}
use Rattle.fm_dataset.proofs.declare.put_map.Goals as goal

pub returns-in-None : goal.returns-in-None
returns-in-None c =
    coordinates-none (array_of c.args.of.now.proto.now c.args.count) c.args.of.now.proto.now c.args.id c.args.maps.now
    (c.coordinate_at.ensures.none (ap is_some c.in-None.is))

pub returns-in_ok-array_of-in-Some : goal.returns-in_ok-array_of-in-Some
returns-in_ok-array_of-in-Some c =
    let shown = coordinates-some (array_of c.args.of.now.proto.now c.args.count) c.args.of.now.proto.now c.args.id
    c.in-Some.var.now c.in-Some.ensures.found in
    rw (shown, sym c.in_ok-array_of-in-Some.ensures) c.push.ensures.ok
