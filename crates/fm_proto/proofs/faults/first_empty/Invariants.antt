-- What is looked for stands among those that are left.
use Rattle.std.proofs.Common.{◌≡◌, drop, find}
use Rattle.fm_model.specs.Prototype.{is_empty}
use Rattle.fm_proto.proofs.faults.first_empty.Given as goal

abbrev pub invariant-loop-dim : goal.invariant-loop-dim
invariant-loop-dim l =
    find (is_empty l.header l.axis) (drop l.dim-index l.header.dims) ≡ find (is_empty l.header l.axis) l.header.dims
