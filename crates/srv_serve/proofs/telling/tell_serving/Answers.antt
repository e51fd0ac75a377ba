-- The text of the folders is that of what is asked for.
use Rattle.srv_serve.proofs.telling.tell_serving.Goals as goal

pub returns-clause-ok : goal.returns-clause-ok
returns-clause-ok g c = rw (c.as_slice.ensures, c.in_ok-folders.ensures) at c.tell_with.ensures
