-- Event by event.
use Rattle.web_session.proofs.SentLemmas.{ended-stays}
use Rattle.web_session.proofs.laws.an_end_stays.Goals as goal

pub returns : goal.returns
returns c = λ events s end. ended-stays events s end
