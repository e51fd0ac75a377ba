-- An array of numbers or texts.
use Rattle.std.proofs.Common.{◌+◌, ℕ, length, sym, ap, ap₂, ◌∙◌, arith}
use Rattle.dap_model.specs.Xdr.{elements_len}
use Rattle.dap_xdr.proofs.DataLemmas.{data-texts, length-numbers}
use Rattle.dap_xdr.proofs.MarkLemmas.{before-first}
use Rattle.dap_xdr.proofs.TextsLemmas.{texts-whole}
use Rattle.dap_xdr.proofs.len.many_len.Goals as goal

pub texts_len-requires-clause-text : goal.texts_len-requires-clause-text
texts_len-requires-clause-text c = sym c.kind.ensures ∙ c.in-Text.is

pub returns-in-Text-clause-exact : goal.returns-in-Text-clause-exact
returns-in-Text-clause-exact c =
    let n = c.args.part.now in
    omega (
      arith,
      c.texts_len.ensures.len,
      before-first n,
      ap length (texts-whole n c.count.result (omega (arith, c.count.ensures))),
      ap length (data-texts n (sym c.kind.ensures ∙ c.in-Text.is) c.requires),
    )

pub returns-in_default-clause-exact : goal.returns-in_default-clause-exact
returns-in_default-clause-exact c =
    c.numbers_len.ensures.exact
    ∙ ap₂ (λ k (m : ℕ). 8 + elements_len k m) c.kind.ensures c.count-in_default.ensures
    ∙ sym (length-numbers c.args.part.now (λ e. c.in_default.not-Text (c.kind.ensures ∙ e)) c.requires)
