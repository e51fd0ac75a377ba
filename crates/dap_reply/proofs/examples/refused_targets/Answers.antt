-- By computing.
use Rattle.std.proofs.Common.{refl}
use Rattle.std.specs.Fmt.{digits}
use Rattle.fm_bits.specs.Quoted.{escaped, quoted}
use Rattle.dap_reply.specs.Fault.{code_lines, constraint_message, error_text, message_lines, fault_code, fault_message, path_message, projection_message}
use Rattle.dap_reply.proofs.examples.refused_targets.Goals as goal

pub returns-clause-escape : goal.returns-clause-escape
unfolding error_text code_lines message_lines fault_code fault_message constraint_message projection_message
    path_message quoted escaped digits
returns-clause-escape c = refl

pub returns-clause-dataset : goal.returns-clause-dataset
unfolding error_text code_lines message_lines fault_code fault_message constraint_message projection_message
    path_message quoted escaped digits
returns-clause-dataset c = refl

pub returns-clause-service : goal.returns-clause-service
unfolding error_text code_lines message_lines fault_code fault_message constraint_message projection_message
    path_message quoted escaped digits
returns-clause-service c = refl
