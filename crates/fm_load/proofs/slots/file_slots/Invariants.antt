-- The steps that are left, after the slots that were found, are what all are.
use Rattle.std.proofs.Common.{◌≡◌, [], drop}
use Rattle.std.specs.List.{filter}
use Rattle.fm_model.specs.LoadVars.{is_compared, slots_after, steps_from}
use Rattle.fm_load.proofs.slots.file_slots.Given as goal

abbrev pub invariant-loop-wanted : goal.invariant-loop-wanted
invariant-loop-wanted l =
    steps_from (slots_after l.proto l.file.bytes l.file.layout.header l.axis.var.now)
    (filter (is_compared l.proto) (drop l.wanted-index l.proto.vars)) l.found
    ≡ steps_from (slots_after l.proto l.file.bytes l.file.layout.header l.axis.var.now)
    (filter (is_compared l.proto) l.proto.vars) []
