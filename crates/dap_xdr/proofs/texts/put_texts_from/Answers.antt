-- Each turn writes one text.
use Rattle.std.proofs.Common.{◌≡◌, ◌≤◌, ◌<◌, ℕ, ◌-◌, ◌+◌, length, refl, ap, subst, ◌∙◌, arith}
use Rattle.dap_model.specs.Box.{index_at}
use Rattle.dap_xdr.specs.Marks.{texts_before}
use Rattle.dap_xdr.specs.Portion.{text_in}
use Rattle.dap_xdr.proofs.TextsLemmas.{texts-done, texts-full, texts-marked, texts-next}
use Rattle.dap_xdr.proofs.texts.put_texts_from.Goals as goal

pub loop-next-init : goal.loop-next-init
loop-next-init c =
    let n = c.args.part.now in
    let before = length (texts_before n c.args.element) in (
      c.begin_at.ensures.index,
      texts-marked n (before + c.args.passed) c.args.element before c.args.passed c.args.out.now
          (record { within = c.requires.element; offset_is = refl }) (omega arith) (omega arith),
    )

pub text-text-requires-clause-index : goal.text-text-requires-clause-index
text-text-requires-clause-index c =
    c.loop-next.invariant.0 (subst (λ (m : ℕ). c.loop-next.next < m) c.count.ensures c.loop-next-test.true)

pub go_on_to-requires-clause-before : goal.go_on_to-requires-clause-before
go_on_to-requires-clause-before c =
    subst (λ (m : ℕ). c.loop-next.index ≡ index_at c.args.part.now.sent.slabs m) (omega arith)
    (c.loop-next.invariant.0 (subst (λ (m : ℕ). c.loop-next.next < m) c.count.ensures c.loop-next-test.true))

pub loop-next-preserved : goal.loop-next-preserved
loop-next-preserved c =
    let n = c.args.part.now in
    let within = subst (λ (m : ℕ). c.loop-next.next < m) c.count.ensures c.loop-next-test.true in
    let text = c.text-text.ensures.exact ∙ ap (text_in n) (c.loop-next.invariant.0 within) in (
      c.go_on_to.ensures.index,
      texts-next n (length (texts_before n c.args.element) + c.args.passed) c.loop-next.filled c.loop-next.next
          c.loop-next.left c.put_text-filled.result c.saturating_sub-left.result c.args.out.now c.loop-next.out
          c.split_at_mut-rest.result.0.now c.split_at_mut-rest.result.1.now c.put_text-filled.new.out
          c.text-text.result.now
          c.loop-next.invariant.1 within text c.split_at_mut-rest.ensures.value c.split_at_mut-rest.ensures.front_len
          c.put_text-filled.ensures
          (c.saturating_sub-left.ensures ∙ ap (λ (m : ℕ). c.loop-next.left - m) c.text_len.ensures),
    )

pub returns-else-filled-out : goal.returns-else-filled-out
returns-else-filled-out c =
    texts-full c.args.part.now (length (texts_before c.args.part.now c.args.element) + c.args.passed) c.loop-next.filled
    c.loop-next.next c.loop-next.left c.args.out.now c.loop-next.out c.loop-next.invariant.1 c.if-filled-out.false

pub returns-after-loop-next : goal.returns-after-loop-next
returns-after-loop-next c =
    texts-done c.args.part.now (length (texts_before c.args.part.now c.args.element) + c.args.passed) c.loop-next.filled
    c.loop-next.next c.loop-next.left c.args.out.now c.loop-next.out c.loop-next.invariant.1
    (subst (λ (m : ℕ). m ≤ c.loop-next.next) c.count.ensures c.loop-next-test.false)
