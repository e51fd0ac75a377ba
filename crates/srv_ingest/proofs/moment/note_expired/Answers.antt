-- The digits of the number stand in the line.
use Rattle.srv_ingest.specs.Lines.{expired_line}
use Rattle.srv_ingest.proofs.ToldLemmas.{TellsClock-one}
use Rattle.srv_ingest.proofs.moment.note_expired.Goals as goal

pub returns : goal.returns
unfolding expired_line
returns g c =
    let said = c.note.ensures in
    let line = rw (c.as_slice.ensures, c.as_bytes.ensures.value, c.format.ensures.text) at said.noted in
    TellsClock-one _ _ _ said.same line
