-- What a reader believes of the runs of a session.
use Rattle.web_session.proofs.RunLemmas.{asks_first, waiting_asked_all}

pub ruleset runs = (asks_first, waiting_asked_all)
