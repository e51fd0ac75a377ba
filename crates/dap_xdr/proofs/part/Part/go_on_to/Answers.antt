-- Slabs that pick something each have an index.
use Rattle.std.proofs.Common.{◌≡◌, ◌<◌, ◌-◌, List, subst, sym, ap, ◌∙◌, arith}
use Rattle.std.proofs.lemmas.Bool.{true≢false}
use Rattle.dap_model.specs.declared.projection.Slab.{Slab}
use Rattle.dap_model.specs.Box.{box_len, index_at}
use Rattle.dap_xdr.specs.Portion.{Portion}
use Rattle.dap_xdr.proofs.ExtentLemmas.{have-indices, have_strides}
use Rattle.dap_xdr.proofs.part.Part.go_on_to.Goals as goal

pub advance-requires-clause-slabs : goal.advance-requires-clause-slabs
advance-requires-clause-slabs c =
    let slabs = c.self.inside.sent.now.slabs in
    let same = ap (λ (n : Portion). box_len n.sent.slabs) c.self.view_is in
    rw c.slabs.ensures (have-indices slabs
    (have_strides c.self.inside.array.now.dims slabs c.self.invariant.1.fits)
    (omega (arith, same, c.has_element.ensures.within c.if-not-has_element.false)))

pub advance-requires-clause-index : goal.advance-requires-clause-index
advance-requires-clause-index c =
    rw c.slabs.ensures
    (subst (λ (n : Portion). c.args.index.now ≡ index_at n.sent.slabs (c.args.element - 1)) (sym c.self.view_is)
    c.requires.before)

pub advance-requires-clause-more : goal.advance-requires-clause-more
advance-requires-clause-more c =
    rw c.slabs.ensures (subst (λ (n : Portion). c.args.element < box_len n.sent.slabs) (sym c.self.view_is)
    (c.has_element.ensures.within c.if-not-has_element.false))

pub advance-requires-clause-room : goal.advance-requires-clause-room
advance-requires-clause-room c = c.has_element.ensures.few c.if-not-has_element.false

pub returns-then-not-has_element-clause-index : goal.returns-then-not-has_element-clause-index
returns-then-not-has_element-clause-index c = λ below.
    absurd (true≢false (sym (c.has_element.ensures.all below) ∙ c.if-not-has_element.true))

pub returns-clause-index : goal.returns-clause-index
returns-clause-index c = λ below.
    c.advance.ensures.index
    ∙ ap (λ (slabs : List Slab). index_at slabs c.args.element) c.slabs.ensures
    ∙ ap (λ (n : Portion). index_at n.sent.slabs c.args.element) c.self.view_is
