-- The line is that of its slices.
use Rattle.srv_serve.specs.Telling.{open_line}
use Rattle.srv_serve.proofs.TellingLemmas.{TellsLines-one, with-blank}
use Rattle.srv_serve.proofs.telling.tell_spec.Goals as goal

pub returns : goal.returns
unfolding open_line
returns g c =
    let said = c.note.ensures in
    let line = rw (c.as_slice.ensures, c.as_slice-2.ensures, c.as_bytes.ensures.value, c.format.ensures.text)
    at said.noted in
    with-blank c.args.name.now c.args.serving.now.listen c.args.folder.now c.args.serving.now.workers
    (TellsLines-one said.same line said.faults)
