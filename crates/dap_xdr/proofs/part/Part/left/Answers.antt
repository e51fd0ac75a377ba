-- An element is below the end of its turn.
use Rattle.std.proofs.Common.{◌%◌, ◌-◌, ◌<◌, sym, ap, ◌∙◌, subst, arith}
use Rattle.dap_model.specs.Box.{box_len}
use Rattle.dap_xdr.specs.Portion.{IsPortion, Portion}
use Rattle.dap_xdr.specs.Stretch.{left_at}
use Rattle.dap_xdr.specs.declared.slabs.Extent.{Extent}
use Rattle.dap_xdr.proofs.PickedLemmas.{left_of}
use Rattle.dap_xdr.proofs.part.Part.left.Goals as goal

pub nonzero_rem-result : goal.nonzero_rem-result
nonzero_rem-result c =
    (left_of _ _ c.args.element c.self.invariant.1 c.self.invariant.2
    (subst (λ (n : Portion). c.args.element < box_len n.sent.slabs) (sym c.self.view_is) c.requires.element)).some

pub overflow_sub-result : goal.overflow_sub-result
overflow_sub-result c =
    let left = left_of _ _ c.args.element c.self.invariant.1 c.self.invariant.2
    (subst (λ (n : Portion). c.args.element < box_len n.sent.slabs) (sym c.self.view_is) c.requires.element) in
    omega (arith, left.below)

pub returns-clause-exact : goal.returns-clause-exact
returns-clause-exact c =
    ap (λ (e : Extent). e.unit - c.args.element % e.unit) c.self.invariant.2
    ∙ ap (λ (n : Portion). left_at n.array.dims n.sent.slabs c.args.element) c.self.view_is

pub returns-clause-some : goal.returns-clause-some
returns-clause-some c =
    let left = left_of _ _ c.args.element c.self.invariant.1 c.self.invariant.2
    (subst (λ (n : Portion). c.args.element < box_len n.sent.slabs) (sym c.self.view_is) c.requires.element) in
    omega (arith, left.below)

pub returns-clause-portion : goal.returns-clause-portion
returns-clause-portion c = subst IsPortion c.self.view_is c.self.invariant.1
