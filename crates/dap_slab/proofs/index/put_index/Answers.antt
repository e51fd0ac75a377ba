-- Each turn is one of `ElementTurn`.
use Rattle.std.proofs.Common.{ℕ, List, ◌/◌, ◌%◌, set, ◌+◌, ◌++◌, take, drop, refl, sym, ap, ap₂, ◌∙◌, arith}
use Rattle.std.proofs.lemmas.List.{length-set, take_all, drop_all, append-nil}
use Rattle.dap_model.specs.declared.projection.Slab.{Slab}
use Rattle.dap_model.specs.Box.{index_at}
use Rattle.dap_slab.proofs.ElementLemmas.{element_turn}
use Rattle.dap_slab.proofs.index.put_index.Goals as goal

pub slab_count-others-requires-clause-few : goal.slab_count-others-requires-clause-few
slab_count-others-requires-clause-few c =
    let turn = element_turn c.args.slabs.now c.loop-at.at c.loop-at.others c.loop-at.rest c.loop-at.index _
    c.loop-at-test.true c.loop-at.invariant.0 c.loop-at.invariant.1 c.loop-at.invariant.2 refl in
    omega (arith, turn.few)

pub nonzero_div-others : goal.nonzero_div-others
nonzero_div-others c =
    let turn = element_turn c.args.slabs.now c.loop-at.at c.loop-at.others c.loop-at.rest c.loop-at.index
    c.slab_count-others.result c.loop-at-test.true c.loop-at.invariant.0 c.loop-at.invariant.1 c.loop-at.invariant.2
    c.slab_count-others.ensures in
    omega (arith, turn.some, c.slab_count-others.ensures)

pub nonzero_div-rest : goal.nonzero_div-rest
nonzero_div-rest c =
    (element_turn c.args.slabs.now c.loop-at.at c.loop-at.others c.loop-at.rest c.loop-at.index
    c.slab_count-others.result c.loop-at-test.true c.loop-at.invariant.0 c.loop-at.invariant.1 c.loop-at.invariant.2
    c.slab_count-others.ensures).positive

pub index_in-requires-clause-strides : goal.index_in-requires-clause-strides
index_in-requires-clause-strides c =
    (element_turn c.args.slabs.now c.loop-at.at c.loop-at.others c.loop-at.rest c.loop-at.index
    c.slab_count-others.result c.loop-at-test.true c.loop-at.invariant.0 c.loop-at.invariant.1 c.loop-at.invariant.2
    c.slab_count-others.ensures).strides

pub nonzero_rem-rest : goal.nonzero_rem-rest
nonzero_rem-rest c =
    (element_turn c.args.slabs.now c.loop-at.at c.loop-at.others c.loop-at.rest c.loop-at.index
    c.slab_count-others.result c.loop-at-test.true c.loop-at.invariant.0 c.loop-at.invariant.1 c.loop-at.invariant.2
    c.slab_count-others.ensures).positive

pub loop-at-preserved : goal.loop-at-preserved
loop-at-preserved c =
    let turn = element_turn c.args.slabs.now c.loop-at.at c.loop-at.others c.loop-at.rest c.loop-at.index
    c.slab_count-others.result c.loop-at-test.true c.loop-at.invariant.0 c.loop-at.invariant.1 c.loop-at.invariant.2
    c.slab_count-others.ensures in
    let next = c.loop-at.others / c.slab_count-others.result in (
      length-set c.loop-at.index _ _ ∙ c.loop-at.invariant.0,
      turn.same,
      turn.left,
      ap (λ (i : ℕ). take (c.loop-at.at + 1) (set c.loop-at.index c.loop-at.at i)
          ++ index_at (drop (c.loop-at.at + 1) c.args.slabs.now) (c.loop-at.rest % next)) c.index_in.ensures
          ∙ turn.again ∙ c.loop-at.invariant.3,
    )

pub returns : goal.returns
unfolding index_at
returns c =
    let all = take_all c.loop-at.at c.loop-at.index (omega (arith, c.loop-at.invariant.0, c.loop-at-test.false)) in
    let none = drop_all c.loop-at.at c.args.slabs.now c.loop-at-test.false in
    sym (append-nil c.loop-at.index)
    ∙ ap₂ (λ (l r : List ℕ). l ++ r) (sym all) (sym (ap (λ (l : List Slab). index_at l c.loop-at.rest) none))
    ∙ c.loop-at.invariant.3
