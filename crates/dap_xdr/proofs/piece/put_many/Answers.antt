-- An array of numbers or texts.
use Rattle.std.proofs.Common.{◌^◌, ℕ, List, drop, sym, subst, ◌∙◌}
use Rattle.dap_number.specs.Overlay.{IsPut}
use Rattle.dap_xdr.proofs.DataLemmas.{data-numbers, data-texts, numbers-small}
use Rattle.dap_xdr.proofs.piece.put_many.Goals as goal

pub put_array-requires-clause-small : goal.put_array-requires-clause-small
put_array-requires-clause-small c =
    numbers-small c.args.part.now (2 ^ 64) (λ e. c.in_default.not-Text (c.kind.ensures ∙ e)) c.requires.many
    c.requires.small

pub put_array-requires-clause-number : goal.put_array-requires-clause-number
put_array-requires-clause-number c = λ e. c.in_default.not-Text (c.kind.ensures ∙ e)

pub put_texts-requires-clause-text : goal.put_texts-requires-clause-text
put_texts-requires-clause-text c = sym c.kind.ensures ∙ c.in-Text.is

pub put_texts-requires-clause-marks : goal.put_texts-requires-clause-marks
put_texts-requires-clause-marks c = c.requires.marks (sym c.kind.ensures ∙ c.in-Text.is)

pub returns-in-Text : goal.returns-in-Text
returns-in-Text c =
    subst (λ (l : List ℕ). IsPut (drop c.args.from l) c.args.out.now c.put_texts.new.out c.put_texts.result)
    (sym (data-texts c.args.part.now (sym c.kind.ensures ∙ c.in-Text.is) c.requires.many))
    c.put_texts.ensures

pub returns-in_default : goal.returns-in_default
returns-in_default c =
    subst (λ (l : List ℕ). IsPut (drop c.args.from l) c.args.out.now c.put_array.new.out c.put_array.result)
    (sym (data-numbers c.args.part.now (λ e. c.in_default.not-Text (c.kind.ensures ∙ e)) c.requires.many))
    c.put_array.ensures
