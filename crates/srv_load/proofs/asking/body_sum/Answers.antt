-- The body stands behind the head.
use Rattle.std.proofs.Common.{refl}
use Rattle.srv_load.proofs.BodyLemmas.{sum-behind, within-reply}
use Rattle.srv_load.proofs.asking.body_sum.Goals as goal

pub sum_from-sum-requires : goal.sum_from-sum-requires
sum_from-sum-requires c = within-reply _ _ _ refl c.in_ok-whole.ensures c.in_ok-head.ensures

pub returns : goal.returns
returns c = sum-behind _ _ _ refl c.in_ok-whole.ensures c.in_ok-head.ensures c.sum_from-sum.ensures
