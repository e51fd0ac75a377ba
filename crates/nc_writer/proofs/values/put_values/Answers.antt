-- Each turn writes some values.
use Rattle.std.proofs.Common.{◌≤◌, ◌<◌, ◌/◌, ◌%◌, ◌^◌, ℕ, List, refl, sym, ap, subst, ◌∙◌, arith}
use Rattle.std.proofs.lemmas.Nat.{mod_below}
use Rattle.dap_model.specs.declared.projection.Slab.{Slab}
use Rattle.dap_model.specs.Box.{box_len, box_of}
use Rattle.dap_model.proofs.BoxLemmas.{length-box_of}
use Rattle.dap_xdr.specs.Datasets.{content_of}
use Rattle.nc_writer.specs.Data.{value_at, value_len, values_in, values_of}
use Rattle.nc_writer.proofs.LenLemmas.{few-values}
use Rattle.nc_writer.proofs.PieceLemmas.{so-far-done, so-far-full, so-far-more, SoFar}
use Rattle.nc_writer.proofs.TurnLemmas.{none-left}
use Rattle.nc_writer.proofs.ValueLemmas.{value-some, values-first, values-past}
use Rattle.nc_writer.proofs.values.put_values.Goals as goal

pub slab_len-count-requires-clause-few : goal.slab_len-count-requires-clause-few
slab_len-count-requires-clause-few c =
    let few = few-values c.args.source.now c.args.variable.now c.requires.variable in
    subst (λ (s : List Slab). box_len s < 2 ^ 128) (sym c.slabs.ensures) (omega (arith, few))

pub overflow_cast-count : goal.overflow_cast-count
overflow_cast-count c =
    let few = few-values c.args.source.now c.args.variable.now c.requires.variable in
    omega (arith, few, c.slab_len-count.ensures, ap box_len c.slabs.ensures)

pub nonzero_div-element : goal.nonzero_div-element
nonzero_div-element c =
    subst (λ (n : ℕ). 0 < n) (sym c.value_len-width.ensures)
    (value-some c.args.source.now c.args.variable.now c.requires.variable)

pub nonzero_rem-left : goal.nonzero_rem-left
nonzero_rem-left c =
    subst (λ (n : ℕ). 0 < n) (sym c.value_len-width.ensures)
    (value-some c.args.source.now c.args.variable.now c.requires.variable)

pub returns-then-element-count : goal.returns-then-element-count
returns-then-element-count c =
    let variable = c.args.variable.now in
    values-past (content_of c.args.source.now) variable c.args.from c.args.out.now
    (value-some c.args.source.now variable c.requires.variable)
    (subst (λ (n : ℕ). n ≤ c.args.from / value_len variable.kind variable.width) (c.slab_len-count.ensures
    ∙ ap box_len c.slabs.ensures)
    (subst (λ (n : ℕ). c.slab_len-count.result ≤ c.args.from / n) c.value_len-width.ensures c.if-element-count.true))

pub loop-element-init : goal.loop-element-init
loop-element-init c =
    let variable = c.args.variable.now in
    let width = c.value_len-width.ensures in
    let count = c.slab_len-count.ensures ∙ ap box_len c.slabs.ensures in
    let some = value-some c.args.source.now variable c.requires.variable in (
      refl,
      subst (λ (n : ℕ). c.args.from % n < value_len variable.kind variable.width) (sym width)
          (mod_below c.args.from (value_len variable.kind variable.width) some),
      subst (λ (n : ℕ). SoFar (value_at (content_of c.args.source.now) variable) (box_of variable.sent.slabs)
          c.args.from 0 (c.args.from / n) (c.args.from % n) c.args.out.now c.args.out.now) (sym width)
          (values-first (content_of c.args.source.now) variable c.args.from c.args.out.now some
          (subst (λ (n : ℕ). c.args.from / value_len variable.kind variable.width < n) count
          (subst (λ (n : ℕ). c.args.from / n < c.slab_len-count.result) width c.if-element-count.false))),
    )

pub put_some-turn-requires : goal.put_some-turn-requires
put_some-turn-requires c = record {
  variable = c.requires.variable;
  element = subst (λ (n : ℕ). c.loop-element.element < n) (c.slab_len-count.ensures ∙ ap box_len c.slabs.ensures)
      c.loop-element-test.true;
  room = c.loop-element.invariant.0 ∙ c.requires.room;
}

pub overflow_add-element : goal.overflow_add-element
overflow_add-element c =
    let few = few-values c.args.source.now c.args.variable.now c.requires.variable in
    omega (arith, few, c.put_some-turn.ensures.turn.within)

pub loop-element-preserved : goal.loop-element-preserved
unfolding values_in
loop-element-preserved c =
    let content = content_of c.args.source.now in
    let variable = c.args.variable.now in
    let slabs = variable.sent.slabs in
    let turn = c.put_some-turn.ensures.turn in (
      c.put_some-turn.ensures.room ∙ c.loop-element.invariant.0,
      value-some c.args.source.now variable c.requires.variable,
      so-far-more (value_at content variable) (box_of slabs) c.args.from c.loop-element.filled c.loop-element.element
          c.loop-element.left c.put_some-turn.result.values c.put_some-turn.result.bytes 0 c.args.out.now
          c.loop-element.out c.split_at_mut-rest.result.0.now c.split_at_mut-rest.result.1.now c.put_some-turn.new.out
          c.loop-element.invariant.2 c.split_at_mut-rest.ensures.value c.split_at_mut-rest.ensures.front_len
          turn.put_is
          (none-left content variable c.loop-element.element c.put_some-turn.result.values c.loop-element.left
          c.loop-element.invariant.1 turn.some turn.within),
    )

pub returns-else-filled-out : goal.returns-else-filled-out
unfolding values_of
returns-else-filled-out c =
    so-far-full (value_at (content_of c.args.source.now) c.args.variable.now) (box_of c.args.variable.now.sent.slabs)
    c.args.from c.loop-element.filled c.loop-element.element c.loop-element.left c.args.out.now c.loop-element.out
    c.loop-element.invariant.2 c.if-filled-out.false

pub returns-after-loop-element : goal.returns-after-loop-element
unfolding values_of
returns-after-loop-element c =
    let slabs = c.args.variable.now.sent.slabs in
    let count = c.slab_len-count.ensures ∙ ap box_len c.slabs.ensures in
    so-far-done (value_at (content_of c.args.source.now) c.args.variable.now) (box_of slabs)
    c.args.from c.loop-element.filled c.loop-element.element c.loop-element.left c.args.out.now c.loop-element.out
    c.loop-element.invariant.2
    (subst (λ (n : ℕ). n ≤ c.loop-element.element) (count ∙ sym (length-box_of slabs)) c.loop-element-test.false)
