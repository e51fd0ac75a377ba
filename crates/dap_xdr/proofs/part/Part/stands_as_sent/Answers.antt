-- The arms that are left are of other kinds.
use Rattle.std.proofs.Common.{◌∙◌}
use Rattle.dap_xdr.proofs.part.Part.stands_as_sent.Goals as goal

pub returns-in_default-clause-number : goal.returns-in_default-clause-number
returns-in_default-clause-number c = λ holds e. c.in_default.not-Text (c.kind.ensures ∙ e)

pub returns-in_default-clause-same : goal.returns-in_default-clause-same
returns-in_default-clause-same c = λ holds e. c.in_default.not-Int16 (c.kind.ensures ∙ e)
