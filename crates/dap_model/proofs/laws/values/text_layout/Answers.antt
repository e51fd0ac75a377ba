-- A text takes four bytes and its own, up to a multiple of four.
use Rattle.dap_model.proofs.XdrLemmas.{length-text_bytes}
use Rattle.dap_model.proofs.laws.values.text_layout.Goals as goal

pub returns : goal.returns
returns c = length-text_bytes c.args.text.now
