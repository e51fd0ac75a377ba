-- By computing.
use Rattle.std.proofs.Common.{refl}
use Rattle.dap_reply.specs.Fault.{fault_status}
use Rattle.dap_reply.specs.Kind.{status_text}
use Rattle.dap_reply.proofs.examples.statuses.Goals as goal

pub returns-clause-bad : goal.returns-clause-bad
unfolding fault_status status_text
returns-clause-bad c = refl

pub returns-clause-missing : goal.returns-clause-missing
unfolding fault_status status_text
returns-clause-missing c = refl

pub returns-clause-method : goal.returns-clause-method
unfolding fault_status status_text
returns-clause-method c = refl

pub returns-clause-body : goal.returns-clause-body
unfolding fault_status status_text
returns-clause-body c = refl

pub returns-clause-head : goal.returns-clause-head
unfolding fault_status status_text
returns-clause-head c = refl
