-- The texts are those of the code, and of what the reason speaks of.
use Rattle.srv_ingest.specs.Lines.{refused_line}
use Rattle.srv_ingest.proofs.lines.note_refused.Goals as goal

pub returns : goal.returns
unfolding refused_line
returns g c =
    rw (c.as_bytes.ensures.value, c.format.ensures.text, c.text.ensures, c.text-2.ensures) at c.note_texts.ensures
