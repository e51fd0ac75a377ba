-- A link of one collection is served as one of several.
use Rattle.std.proofs.Common.{ap}
use Rattle.dap_reply.specs.Collections.{Collections}
use Rattle.srv_conn.proofs.AloneLemmas.{serves-alone}
use Rattle.srv_conn.proofs.serve.serve_link.Goals as goal

pub returns-clause-serves : goal.returns-clause-serves
returns-clause-serves g c = serves-alone c.serve_looks.ensures.serves

pub returns-clause-same_proto : goal.returns-clause-same_proto
returns-clause-same_proto g c = ap (λ (them : Collections). them.proto 0) c.serve_looks.ensures.same

pub returns-clause-same_still : goal.returns-clause-same_still
returns-clause-same_still g c = ap (λ (them : Collections). them.still 0) c.serve_looks.ensures.same
