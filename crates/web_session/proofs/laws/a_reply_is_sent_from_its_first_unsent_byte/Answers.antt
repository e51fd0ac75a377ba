-- By the sum of the counts.
use Rattle.web_session.proofs.SentLemmas.{sends-all, sends-on}
use Rattle.web_session.proofs.laws.a_reply_is_sent_from_its_first_unsent_byte.Goals as goal

pub returns-clause-unsent : goal.returns-clause-unsent
returns-clause-unsent c = λ s asked len counts. sends-on s asked len counts

pub returns-clause-whole : goal.returns-clause-whole
returns-clause-whole c = λ s asked len counts. sends-all s asked len counts
