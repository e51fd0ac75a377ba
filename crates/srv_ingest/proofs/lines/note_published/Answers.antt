-- The digits of three numbers stand in the line.
use Rattle.srv_ingest.specs.Lines.{published_line}
use Rattle.srv_ingest.proofs.ToldLemmas.{TellsInbox-one}
use Rattle.srv_ingest.proofs.lines.note_published.Goals as goal

pub returns : goal.returns
unfolding published_line
returns g c =
    let said = c.note.ensures in
    let line = rw (
      c.as_slice.ensures,
      c.as_bytes.ensures.value,
      c.format.ensures.text,
      c.as_bytes-2.ensures.value,
      c.format-2.ensures.text,
      c.as_bytes-3.ensures.value,
      c.format-3.ensures.text,
    ) at said.noted in
    TellsInbox-one _ _ _ said.same line said.faults
