-- The line is that of its slices.
use Rattle.srv_ingest.proofs.ToldLemmas.{TellsInbox-one}
use Rattle.srv_ingest.proofs.lines.note_texts.Goals as goal

pub returns : goal.returns
returns g c =
    let said = c.note.ensures in
    TellsInbox-one _ _ _ said.same (rw c.as_slice.ensures at said.noted) said.faults
