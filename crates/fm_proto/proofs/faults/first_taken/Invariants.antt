-- What is looked for stands among the shown variables that are left.
use Rattle.std.proofs.Common.{◌≡◌, drop, find, filter}
use Rattle.fm_model.specs.Prototype.{has_taken_name, is_kept}
use Rattle.fm_proto.proofs.faults.first_taken.Given as goal

abbrev pub invariant-loop-var : goal.invariant-loop-var
invariant-loop-var l =
    find (has_taken_name l.axis) (filter (is_kept l.header l.axis) (drop l.var-index l.header.vars))
    ≡ find (has_taken_name l.axis) (filter (is_kept l.header l.axis) l.header.vars)
