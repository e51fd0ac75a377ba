-- What is sent of a dataset can be written.
use Rattle.std.proofs.Common.{◌∙◌}
use Rattle.srv_views.proofs.PickLemmas.{picked-can}
use Rattle.srv_views.proofs.picked.pick_of.Goals as goal

pub invariant_of-result : goal.invariant_of-result
invariant_of-result c = picked-can c.args.source c.as_slice.result.now c.args.constraint.now c.in-Ok.projected
    c.proto-proto.ensures.prototype c.proto-proto.ensures.rows (c.as_slice.ensures ∙ c.decls.ensures) c.in-Ok.ensures
