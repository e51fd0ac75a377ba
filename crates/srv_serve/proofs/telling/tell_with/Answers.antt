-- The line is that of its slices.
use Rattle.srv_serve.specs.Telling.{open_line}
use Rattle.srv_serve.proofs.TellingLemmas.{TellsLines-one}
use Rattle.srv_serve.proofs.telling.tell_with.Goals as goal

pub returns : goal.returns
unfolding open_line
returns g c =
    let said = c.note.ensures in
    let line = rw (c.as_slice.ensures, c.as_bytes.ensures.value, c.format.ensures.text) at said.noted in
    TellsLines-one said.same line said.faults
