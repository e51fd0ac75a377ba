-- Both ways.
use Rattle.dap_reply.proofs.ManyLemmas.{one-of-many}
use Rattle.dap_reply.proofs.laws.a_link_of_one_collection_is_served_as_one_of_several.Goals as goal

pub returns : goal.returns
returns c = λ call. one-of-many call
