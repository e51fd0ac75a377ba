-- The index list that a walk holds stands in the box, before those still to come.
use Rattle.std.proofs.Common.{◌≡◌, ◌-◌, ◌∙◌, ap, subst, arith, slice_get, Some}
use Rattle.dap_model.specs.Box.{box_of}
use Rattle.dap_slab.specs.Walking.{Walking}
use Rattle.dap_slab.proofs.WalkLemmas.{given_last}
use Rattle.dap_slab.proofs.walk.Walk.index.Goals as goal

pub returns : goal.returns
returns c =
    let walk = c.self.inside in
    let holds = c.self.invariant in
    let given = ap (λ (w : Walking). w.given) c.self.view_is in
    subst (λ (w : Walking). slice_get (box_of w.slabs) (w.given - 1) ≡ Some c.as_slice.result.now) c.self.view_is
    (given_last walk.slabs.items walk.given c.as_slice.result.now (omega (arith, given, c.requires))
    (omega (arith, holds.1, holds.2)) (c.as_slice.ensures.value ∙ holds.3))
