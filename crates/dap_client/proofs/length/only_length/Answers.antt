-- The one length is that of the first line that is one.
use Rattle.std.proofs.Common.{ap, arith, ◌∙◌}
use Rattle.dap_client.specs.Reply.{length_of}
use Rattle.dap_client.proofs.LengthLemmas.{only_length-one}
use Rattle.dap_client.proofs.length.only_length.Goals as goal

pub returns : goal.returns
returns c =
    let at = c.first_length-at in
    only_length-one c.args.raw.now c.args.lines.now c.split_at.result.1.now at.result c.first_length.result _ _
    at.ensures.lines at.ensures.first (omega (arith, c.if-lines-at.false)) c.split_at.ensures.back
    c.first_length.ensures.lines (omega (arith, c.if-first_length-rest.false))
    (c.length_of.ensures ∙ ap length_of c.of.ensures)
