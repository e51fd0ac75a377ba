-- An array of numbers or texts.
use Rattle.std.proofs.Common.{◌+◌, ℕ, sym, ap₂, ◌∙◌, arith}
use Rattle.dap_model.specs.Xdr.{elements_len}
use Rattle.fm_twod.proofs.ValueLemmas.{length-numbers, length-texts}
use Rattle.fm_twod.proofs.len.many_len.Goals as goal

pub returns-in-Text-clause-exact : goal.returns-in-Text-clause-exact
returns-in-Text-clause-exact c =
    omega (
      arith,
      c.items_len.ensures.exact,
      length-texts c.args.section.now (sym c.kind.ensures ∙ c.in-Text.is) c.requires,
    )

pub returns-in_default-clause-exact : goal.returns-in_default-clause-exact
returns-in_default-clause-exact c =
    c.numbers_len.ensures.exact
    ∙ ap₂ (λ k (m : ℕ). 8 + elements_len k m) c.kind.ensures c.count-in_default.ensures
    ∙ sym (length-numbers c.args.section.now (λ e. c.in_default.not-Text (c.kind.ensures ∙ e)) c.requires)
