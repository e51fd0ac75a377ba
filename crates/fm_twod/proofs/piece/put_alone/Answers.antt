-- A number or a text alone.
use Rattle.std.proofs.Common.{ℕ, List, [], drop, sym, ap, subst, ◌∙◌}
use Rattle.dap_model.specs.Xdr.{number_bytes, text_bytes}
use Rattle.dap_number.specs.Overlay.{IsPut}
use Rattle.dap_number.proofs.FrontLemmas.{put-left}
use Rattle.dap_xdr.proofs.DataLemmas.{alone}
use Rattle.fm_twod.specs.Chosen.{bits_in}
use Rattle.fm_twod.proofs.ValueLemmas.{data-number, data-text}
use Rattle.fm_twod.proofs.piece.put_alone.Goals as goal

pub text-requires : goal.text-requires
text-requires c =
    let one = alone c.args.section.now.sent.slabs c.requires.alone in
    record { text = sym c.kind.ensures ∙ c.in-Text.is; element = one.within; index = one.index_is }

pub bits-requires : goal.bits-requires
bits-requires c =
    let one = alone c.args.section.now.sent.slabs c.requires.alone in
    record { number = λ e. c.in_default.not-Text (c.kind.ensures ∙ e); element = one.within; index = one.index_is }

pub returns-in-Text : goal.returns-in-Text
returns-in-Text c =
    subst (λ (l : List ℕ). IsPut (drop c.args.from l) c.args.out.now c.put_text.new.out c.put_text.result)
    (ap text_bytes c.text.ensures.exact
    ∙ sym (data-text c.args.section.now (sym c.kind.ensures ∙ c.in-Text.is) c.requires.alone))
    c.put_text.ensures

pub returns-in_default : goal.returns-in_default
returns-in_default c =
    subst (λ (l : List ℕ). IsPut (drop c.args.from l) c.args.out.now c.put_number.new.out c.put_number.result)
    (ap (number_bytes c.kind.result) c.bits.ensures.exact
    ∙ ap (λ k. number_bytes k (bits_in c.args.section.now [])) c.kind.ensures
    ∙ sym (data-number c.args.section.now (λ e. c.in_default.not-Text (c.kind.ensures ∙ e)) c.requires.alone))
    (put-left _ c.args.out.now c.put_number.new.out c.args.from c.put_number.result c.put_number.ensures.count
    c.put_number.ensures.bytes)
