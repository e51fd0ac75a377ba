-- The digits of the number stand in the line.
use Rattle.srv_ingest.specs.Lines.{numbered_line}
use Rattle.srv_ingest.proofs.ToldLemmas.{TellsInbox-one}
use Rattle.srv_ingest.proofs.lines.note_numbered.Goals as goal

pub returns : goal.returns
unfolding numbered_line
returns g c =
    let said = c.note.ensures in
    let line = rw (c.as_bytes.ensures.value, c.format.ensures.text) at said.noted in
    TellsInbox-one _ _ _ said.same line said.faults
