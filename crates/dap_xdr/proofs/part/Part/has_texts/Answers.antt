-- Slabs without an element have rank 0.
use Rattle.std.proofs.Common.{List, length, sym, ap, ◌∙◌, arith}
use Rattle.dap_model.specs.declared.projection.Slab.{Slab}
use Rattle.dap_xdr.proofs.part.Part.has_texts.Goals as goal

pub returns-in-Text-clause-text : goal.returns-in-Text-clause-text
returns-in-Text-clause-text c = λ holds. sym c.kind.ensures ∙ c.in-Text.is

pub returns-in-Text-clause-many : goal.returns-in-Text-clause-many
returns-in-Text-clause-many c = λ holds none.
    absurd (omega (arith, c.rank.ensures.value, ap (λ (l : List Slab). length l) none))
