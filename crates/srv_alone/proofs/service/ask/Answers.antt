-- Where the session was served, it rests or has ended.
use Rattle.srv_alone.proofs.AskLemmas.{rests-Serves}
use Rattle.srv_alone.proofs.service.ask.Goals as goal

pub returns-clause-stands : goal.returns-clause-stands
returns-clause-stands g c = rests-Serves _ c.serve_link-stop.ensures.serves
