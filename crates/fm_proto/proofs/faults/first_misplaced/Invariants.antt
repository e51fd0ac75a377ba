-- What is looked for stands among those that are left.
use Rattle.std.proofs.Common.{◌≡◌, drop, find}
use Rattle.fm_model.specs.Prototype.{has_time_later}
use Rattle.fm_proto.proofs.faults.first_misplaced.Given as goal

abbrev pub invariant-loop-var : goal.invariant-loop-var
invariant-loop-var l =
    find (has_time_later l.axis) (drop l.var-index l.header.vars) ≡ find (has_time_later l.axis) l.header.vars
