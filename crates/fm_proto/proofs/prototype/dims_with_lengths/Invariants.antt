-- The dimensions so far have their lengths.
use Rattle.std.proofs.Common.{◌≡◌, map, take}
use Rattle.fm_model.specs.Prototype.{with_length}
use Rattle.fm_proto.proofs.prototype.dims_with_lengths.Given as goal

abbrev pub invariant-loop-dim : goal.invariant-loop-dim
invariant-loop-dim l = l.dims ≡ map (with_length l.header) (take l.dim-index l.dim-items)
