-- What is answered to the request, as a reply.
use Rattle.dap_reply.proofs.WellFormedLemmas.{well-replied}
use Rattle.dap_reply.proofs.laws.a_well_formed_request_gets_what_it_asks_for.Goals as goal

pub returns : goal.returns
returns c = λ proto files item target body revision number formed.
    well-replied proto files item target body revision number formed
