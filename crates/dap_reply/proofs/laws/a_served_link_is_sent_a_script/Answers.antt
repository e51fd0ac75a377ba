-- The bytes of the replies, and what follows them.
use Rattle.dap_reply.proofs.ServedLemmas.{served-script, short-script}
use Rattle.dap_reply.proofs.laws.a_served_link_is_sent_a_script.Goals as goal

pub returns-clause-ample : goal.returns-clause-ample
returns-clause-ample c = λ call served sound ample. served-script call served sound ample

pub returns-clause-short : goal.returns-clause-short
returns-clause-short c = λ call served sound short. short-script call served sound short
