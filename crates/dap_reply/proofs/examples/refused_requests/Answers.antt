-- By computing.
use Rattle.std.proofs.Common.{refl}
use Rattle.std.specs.Fmt.{digits}
use Rattle.fm_bits.specs.Quoted.{escaped, quoted}
use Rattle.dap_reply.specs.Fault.{code_lines, constraint_message, error_text, message_lines, fault_code, fault_message, path_message, projection_message}
use Rattle.dap_reply.proofs.examples.refused_requests.Goals as goal

pub returns-clause-method : goal.returns-clause-method
unfolding error_text code_lines message_lines fault_code fault_message constraint_message projection_message
    path_message quoted escaped digits
returns-clause-method c = refl

pub returns-clause-body : goal.returns-clause-body
unfolding error_text code_lines message_lines fault_code fault_message constraint_message projection_message
    path_message quoted escaped digits
returns-clause-body c = refl

pub returns-clause-head : goal.returns-clause-head
unfolding error_text code_lines message_lines fault_code fault_message constraint_message projection_message
    path_message quoted escaped digits
returns-clause-head c = refl

pub returns-clause-long : goal.returns-clause-long
unfolding error_text code_lines message_lines fault_code fault_message constraint_message projection_message
    path_message quoted escaped digits
returns-clause-long c = refl
