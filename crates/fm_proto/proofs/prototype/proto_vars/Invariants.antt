-- The variables so far that the views show are as they show them.
use Rattle.std.proofs.Common.{◌≡◌, filter, map, take}
use Rattle.fm_model.specs.Prototype.{is_kept, proto_var}
use Rattle.fm_proto.proofs.prototype.proto_vars.Given as goal

abbrev pub invariant-loop-number : goal.invariant-loop-number
invariant-loop-number l =
    l.vars
    ≡ map (proto_var l.file.bytes l.file.layout.header l.axis)
    (filter (is_kept l.file.layout.header l.axis) (take l.number l.file.layout.header.vars))
