-- A number or a text alone.
use Rattle.std.proofs.Common.{[], length, sym, ap, ◌∙◌}
use Rattle.dap_model.specs.Xdr.{number_len, text_len}
use Rattle.dap_model.proofs.XdrLemmas.{length-number_bytes, length-text_bytes}
use Rattle.dap_xdr.proofs.DataLemmas.{alone}
use Rattle.fm_twod.specs.Chosen.{bits_in, text_in}
use Rattle.fm_twod.proofs.ValueLemmas.{data-number, data-text}
use Rattle.fm_twod.proofs.len.alone_len.Goals as goal

pub text-requires : goal.text-requires
text-requires c =
    let one = alone c.args.section.now.sent.slabs c.requires in
    record { text = sym c.kind.ensures ∙ c.in-Text.is; element = one.within; index = one.index_is }

pub returns-in-Text : goal.returns-in-Text
returns-in-Text c =
    let s = c.args.section.now in
    c.text_len.ensures
    ∙ ap (λ l. text_len (length l)) c.text.ensures.exact
    ∙ sym (length-text_bytes (text_in s []))
    ∙ sym (ap length (data-text s (sym c.kind.ensures ∙ c.in-Text.is) c.requires))

pub returns-in_default : goal.returns-in_default
returns-in_default c =
    let s = c.args.section.now in
    c.number_len.ensures ∙ ap number_len c.kind.ensures
    ∙ sym (length-number_bytes s.array.kind (bits_in s []))
    ∙ sym (ap length (data-number s (λ e. c.in_default.not-Text (c.kind.ensures ∙ e)) c.requires))
