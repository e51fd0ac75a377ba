-- Each turn writes some bytes more.
use Rattle.std.proofs.Common.{◌≡◌, ◌≢◌, ℕ, ◌+◌, ◌/◌, ◌%◌, ◌<◌, ◌≤◌, sym, ap, subst, ◌∙◌, arith}
use Rattle.std.proofs.lemmas.List.{length-drop}
use Rattle.dap_model.specs.Box.{box_len}
use Rattle.dap_model.specs.Xdr.{element_len}
use Rattle.dap_model.specs.declared.declaration.DapKind.{DapKind}
use Rattle.dap_model.specs.declared.declaration.DapKind.TheVariants.{Text}
use Rattle.dap_xdr.specs.Portion.{numbers_from}
use Rattle.dap_xdr.proofs.SoFarLemmas.{element_len-most, element_len-pos, so-far-all, so-far-done, so-far-first, so-far-full, so-far-more, so-far-element, SoFar}
use Rattle.dap_xdr.proofs.elements.put_elements.Goals as goal

pub nonzero_div-element : goal.nonzero_div-element
nonzero_div-element c =
    subst (λ (m : ℕ). 0 < m) (sym c.element_len-width.ensures) (element_len-pos c.kind.result
    (subst (λ (kind : DapKind). kind ≢ Text) (sym c.kind.ensures) c.requires.number))

pub nonzero_rem-skip : goal.nonzero_rem-skip
nonzero_rem-skip c =
    subst (λ (m : ℕ). 0 < m) (sym c.element_len-width.ensures) (element_len-pos c.kind.result
    (subst (λ (kind : DapKind). kind ≢ Text) (sym c.kind.ensures) c.requires.number))

pub loop-element-init : goal.loop-element-init
loop-element-init c =
    let width : element_len c.args.part.now.array.kind ≡ c.element_len-width.result =
    sym (c.element_len-width.ensures ∙ ap element_len c.kind.ensures) in
    let number = c.requires.number in (
      c.begin_at.ensures.room,
      subst (λ (m : ℕ). SoFar c.args.part.now c.args.from 0
          (c.args.from / m) (c.args.from % m) c.args.out.now c.args.out.now) width
          (so-far-first c.args.part.now c.args.from c.args.out.now number),
      c.begin_at.ensures.index,
    )

pub put_more-count-requires-clause-index : goal.put_more-count-requires-clause-index
put_more-count-requires-clause-index c =
    c.loop-element.invariant.2 (subst (λ (m : ℕ). c.loop-element.element < m) c.count.ensures c.loop-element-test.true)

pub overflow_add-passed : goal.overflow_add-passed
overflow_add-passed c =
    let most = element_len-most c.args.part.now.array.kind in
    omega (arith, most, c.loop-element.invariant.1.below, c.put_more-count.ensures.fits)

pub overflow_add-next : goal.overflow_add-next
overflow_add-next c =
    let number = c.requires.number in
    let width : element_len c.args.part.now.array.kind ≡ c.element_len-width.result =
    sym (c.element_len-width.ensures ∙ ap element_len c.kind.ensures) in
    let here = subst (λ (m : ℕ). c.loop-element.element < m) c.count.ensures c.loop-element-test.true in
    let most = so-far-element c.args.part.now c.loop-element.element
    c.loop-element.skip c.put_more-count.result number here c.loop-element.invariant.1.below
    c.put_more-count.ensures.within in
    omega (
      arith,
      subst (λ (m : ℕ). c.loop-element.element + (c.loop-element.skip + c.put_more-count.result) / m
          ≤ box_len c.args.part.now.sent.slabs) width most,
      c.count.ensures,
    )

pub loop-element-preserved : goal.loop-element-preserved
loop-element-preserved c =
    let number = c.requires.number in
    let width : element_len c.args.part.now.array.kind ≡ c.element_len-width.result =
    sym (c.element_len-width.ensures ∙ ap element_len c.kind.ensures) in
    let passed = c.loop-element.skip + c.put_more-count.result in (
      c.move_on.ensures.room ∙ c.loop-element.invariant.0,
      subst (λ (m : ℕ). SoFar c.args.part.now c.args.from
          (c.loop-element.filled + c.put_more-count.result) (c.loop-element.element + passed / m) (passed % m)
          c.args.out.now c.put_more-count.new.out) width
          (so-far-more c.args.part.now c.args.from c.loop-element.filled
          c.loop-element.element c.loop-element.skip c.put_more-count.result c.args.out.now c.loop-element.out
          c.put_more-count.new.out number c.loop-element.invariant.1 c.put_more-count.ensures.fits
          c.put_more-count.ensures.within c.put_more-count.ensures.bytes),
      c.move_on.ensures.index,
    )

pub move_on-requires-clause-element : goal.move_on-requires-clause-element
move_on-requires-clause-element c =
    subst (λ (m : ℕ). c.loop-element.element < m) c.count.ensures c.loop-element-test.true

pub move_on-requires-clause-before : goal.move_on-requires-clause-before
move_on-requires-clause-before c =
    c.loop-element.invariant.2 (subst (λ (m : ℕ). c.loop-element.element < m) c.count.ensures c.loop-element-test.true)

pub move_on-requires-clause-room : goal.move_on-requires-clause-room
move_on-requires-clause-room c = c.loop-element.invariant.0 ∙ c.requires.index

pub nonzero_div-next : goal.nonzero_div-next
nonzero_div-next c =
    subst (λ (m : ℕ). 0 < m) (sym c.element_len-width.ensures) (element_len-pos c.kind.result
    (subst (λ (kind : DapKind). kind ≢ Text) (sym c.kind.ensures) c.requires.number))

pub nonzero_rem-skip-in-loop-element : goal.nonzero_rem-skip-in-loop-element
nonzero_rem-skip-in-loop-element c =
    subst (λ (m : ℕ). 0 < m) (sym c.element_len-width.ensures) (element_len-pos c.kind.result
    (subst (λ (kind : DapKind). kind ≢ Text) (sym c.kind.ensures) c.requires.number))

pub returns-else-filled-out-clause-bytes : goal.returns-else-filled-out-clause-bytes
returns-else-filled-out-clause-bytes c =
    so-far-full c.args.part.now c.args.from c.loop-element.filled c.loop-element.element c.loop-element.skip
    c.args.out.now c.loop-element.out c.loop-element.invariant.1 c.if-filled-out.false

pub returns-after-loop-element-clause-count : goal.returns-after-loop-element-clause-count
returns-after-loop-element-clause-count c =
    let so = c.loop-element.invariant.1 in
    let past = subst (λ (m : ℕ). m ≤ c.loop-element.element) c.count.ensures c.loop-element-test.false in
    let all = so-far-all c.args.part.now c.args.from c.loop-element.filled
    c.loop-element.element c.loop-element.skip c.args.out.now c.loop-element.out so past in
    omega (
      arith,
      all,
      so.fits,
      length-drop c.args.from
          (numbers_from c.args.part.now 0),
    )

pub returns-after-loop-element-clause-bytes : goal.returns-after-loop-element-clause-bytes
returns-after-loop-element-clause-bytes c =
    so-far-done c.args.part.now c.args.from c.loop-element.filled
    c.loop-element.element c.loop-element.skip c.args.out.now c.loop-element.out c.loop-element.invariant.1
    (subst (λ (m : ℕ). m ≤ c.loop-element.element) c.count.ensures c.loop-element-test.false)
