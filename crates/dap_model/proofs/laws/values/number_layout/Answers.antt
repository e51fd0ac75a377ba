-- A number alone takes as many bytes as its kind says.
use Rattle.dap_model.proofs.XdrLemmas.{length-number_bytes}
use Rattle.dap_model.proofs.laws.values.number_layout.Goals as goal

pub returns : goal.returns
returns c = length-number_bytes c.args.kind c.args.bits
