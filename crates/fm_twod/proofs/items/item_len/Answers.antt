-- A text is short, and a number has at most eight bytes.
use Rattle.std.proofs.Common.{length, sym, ap, ◌∙◌, arith}
use Rattle.dap_model.specs.Xdr.{element_len, text_len}
use Rattle.dap_model.proofs.XdrLemmas.{length-text_bytes}
use Rattle.dap_xdr.proofs.SoFarLemmas.{element_len-most}
use Rattle.fm_twod.specs.Chosen.{bits_in, text_in}
use Rattle.fm_twod.proofs.ValueLemmas.{item-long, item-text}
use Rattle.fm_twod.proofs.items.item_len.Goals as goal

pub text-requires-clause-text : goal.text-requires-clause-text
text-requires-clause-text c = sym c.kind.ensures ∙ c.in-Text.is

pub returns-in-Text-clause-exact : goal.returns-in-Text-clause-exact
returns-in-Text-clause-exact c =
    let s = c.args.section.now in
    c.text_len.ensures
    ∙ ap (λ l. text_len (length l)) c.text.ensures.exact
    ∙ sym (length-text_bytes (text_in s c.args.index.now))
    ∙ sym (ap length (item-text s c.args.index.now (sym c.kind.ensures ∙ c.in-Text.is)))

pub returns-in-Text-clause-few : goal.returns-in-Text-clause-few
returns-in-Text-clause-few c = omega (arith, c.text_len.ensures, c.text.ensures.short)

pub returns-in_default-clause-exact : goal.returns-in_default-clause-exact
returns-in_default-clause-exact c =
    let s = c.args.section.now in
    c.element_len.ensures ∙ ap element_len c.kind.ensures
    ∙ sym (item-long s.array.kind (bits_in s c.args.index.now) (text_in s c.args.index.now)
    (λ e. c.in_default.not-Text (c.kind.ensures ∙ e)))

pub returns-in_default-clause-few : goal.returns-in_default-clause-few
returns-in_default-clause-few c = omega (arith, c.element_len.ensures, element_len-most c.kind.result)
