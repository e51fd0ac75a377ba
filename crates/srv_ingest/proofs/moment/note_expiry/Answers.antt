-- The line that memory ran out has one slice.
use Rattle.srv_ingest.specs.Lines.{expiry_lines}
use Rattle.srv_ingest.proofs.ToldLemmas.{TellsClock-one}
use Rattle.srv_ingest.proofs.moment.note_expiry.Goals as goal

pub returns-in-Short : goal.returns-in-Short
unfolding expiry_lines
returns-in-Short g c =
    let said = c.note.ensures in
    rw c.in-Short.is (TellsClock-one _ _ _ said.same (rw c.as_slice.ensures at said.noted))
