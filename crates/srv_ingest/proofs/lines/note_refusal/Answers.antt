-- The reason is the one that is defined.
use Rattle.srv_ingest.specs.Lines.{refusal_lines}
use Rattle.srv_ingest.proofs.lines.note_refusal.Goals as goal

pub returns-in-TooLong : goal.returns-in-TooLong
unfolding refusal_lines
returns-in-TooLong g c = rw c.in-TooLong.is (rw c.plain.ensures at c.note_refused.ensures)

pub returns-in-Fault : goal.returns-in-Fault
unfolding refusal_lines
returns-in-Fault g c =
    rw c.in-Fault.is (rw (c.code.ensures, c.reason_of.ensures) at c.note_refused-in-Fault.ensures)
