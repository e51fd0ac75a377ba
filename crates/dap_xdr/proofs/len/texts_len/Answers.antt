-- Each turn counts one text.
use Rattle.std.proofs.Common.{◌≡◌, ◌+◌, ◌<◌, ℕ, List, length, ap, subst, ◌∙◌, arith}
use Rattle.std.proofs.lemmas.List.{length-append}
use Rattle.dap_model.specs.Box.{box_len, index_at}
use Rattle.dap_model.specs.Xdr.{text_bytes, text_len}
use Rattle.dap_model.proofs.XdrLemmas.{length-text_bytes}
use Rattle.dap_xdr.specs.Marks.{texts_before}
use Rattle.dap_xdr.specs.Portion.{text_in}
use Rattle.dap_xdr.proofs.TextsLemmas.{texts-more}
use Rattle.dap_xdr.proofs.len.texts_len.Goals as goal

pub loop-element-init : goal.loop-element-init
loop-element-init c = (c.begin_at.ensures.room, c.begin_at.ensures.index, omega arith, omega arith)

pub text-text-requires-clause-index : goal.text-text-requires-clause-index
text-text-requires-clause-index c =
    c.loop-element.invariant.1 (omega (arith, c.loop-element-test.true, c.requires.within))

pub go_on_to-requires-clause-before : goal.go_on_to-requires-clause-before
go_on_to-requires-clause-before c =
    subst (λ (m : ℕ). c.loop-element.index ≡ index_at c.args.part.now.sent.slabs m) (omega arith)
    (c.loop-element.invariant.1 (omega (arith, c.loop-element-test.true, c.requires.within)))

pub loop-element-preserved : goal.loop-element-preserved
loop-element-preserved c =
    let n = c.args.part.now in
    let within : c.loop-element.element < box_len n.sent.slabs =
    omega (arith, c.loop-element-test.true, c.requires.within) in
    let text = c.text-text.ensures.exact ∙ ap (text_in n) (c.loop-element.invariant.1 within) in
    let one : c.from-len.result ≡ text_len (length c.text-text.result.now) = c.from-len.ensures ∙ c.text_len.ensures in
    let more = texts-more n c.loop-element.element within in
    let long : length (text_bytes c.text-text.result.now) ≡ text_len (length c.text-text.result.now) =
    length-text_bytes c.text-text.result.now in
    let same = ap (λ (l : List ℕ). length (text_bytes l)) text in (
      c.go_on_to.ensures.room ∙ c.loop-element.invariant.0,
      c.go_on_to.ensures.index,
      omega (
        arith,
        c.loop-element.invariant.2,
        one,
        long,
        same,
        length-append (texts_before n c.loop-element.element)
            (text_bytes (text_in n (index_at n.sent.slabs c.loop-element.element))),
        ap length more,
      ),
      omega (arith, c.loop-element.invariant.3, one, c.text-text.ensures.short),
    )

pub returns-clause-len : goal.returns-clause-len
returns-clause-len c =
    let past = c.loop-element.auto.element-end c.requires.order in
    let end : c.loop-element.element ≡ c.args.to = omega (arith, c.loop-element-test.false, past) in
    subst (λ (m : ℕ). length (texts_before c.args.part.now c.args.from) + c.loop-element.len
    ≡ length (texts_before c.args.part.now m)) end c.loop-element.invariant.2

pub returns-clause-few : goal.returns-clause-few
returns-clause-few c =
    let past = c.loop-element.auto.element-end c.requires.order in
    omega (arith, c.loop-element.invariant.3, past)
