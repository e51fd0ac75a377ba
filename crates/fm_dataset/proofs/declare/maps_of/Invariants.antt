use Rattle.std.proofs.Common.{◌≡◌, map, take}
use Rattle.fm_dataset.specs.Declarations.{array_of, coordinates_of}
use Rattle.fm_dataset.proofs.declare.maps_of.Given as goal

abbrev pub invariant-loop-id : goal.invariant-loop-id
invariant-loop-id l =
    l.maps ≡ map (array_of l.of.proto.now l.count) (coordinates_of l.of.proto.now (take l.id-index l.ids))
