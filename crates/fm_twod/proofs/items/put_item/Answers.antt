-- A text, or an element of an array.
use Rattle.std.proofs.Common.{ℕ, List, drop, sym, ap, subst, ◌∙◌}
use Rattle.dap_model.specs.Xdr.{element_bytes, text_bytes}
use Rattle.dap_number.specs.Overlay.{IsPut}
use Rattle.dap_number.proofs.FrontLemmas.{put-left}
use Rattle.fm_twod.specs.Chosen.{bits_in}
use Rattle.fm_twod.proofs.ValueLemmas.{item-number, item-text}
use Rattle.fm_twod.proofs.items.put_item.Goals as goal

pub text-requires-clause-text : goal.text-requires-clause-text
text-requires-clause-text c = sym c.kind.ensures ∙ c.in-Text.is

pub bits-requires-clause-number : goal.bits-requires-clause-number
bits-requires-clause-number c = λ e. c.in_default.not-Text (c.kind.ensures ∙ e)

pub returns-in-Text : goal.returns-in-Text
returns-in-Text c =
    subst (λ (l : List ℕ). IsPut (drop c.args.from l) c.args.out.now c.put_text.new.out c.put_text.result)
    (ap text_bytes c.text.ensures.exact
    ∙ sym (item-text c.args.section.now c.args.index.now (sym c.kind.ensures ∙ c.in-Text.is)))
    c.put_text.ensures

pub returns-in_default : goal.returns-in_default
returns-in_default c =
    subst (λ (l : List ℕ). IsPut (drop c.args.from l) c.args.out.now c.put_element.new.out c.put_element.result)
    (ap (element_bytes c.kind.result) c.bits.ensures.exact
    ∙ ap (λ k. element_bytes k (bits_in c.args.section.now c.args.index.now)) c.kind.ensures
    ∙ sym (item-number c.args.section.now c.args.index.now (λ e. c.in_default.not-Text (c.kind.ensures ∙ e))))
    (put-left _ c.args.out.now c.put_element.new.out c.args.from c.put_element.result c.put_element.ensures.count
    c.put_element.ensures.bytes)
