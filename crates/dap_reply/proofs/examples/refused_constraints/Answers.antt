-- By computing.
use Rattle.std.proofs.Common.{refl}
use Rattle.std.specs.Fmt.{digits}
use Rattle.fm_bits.specs.Quoted.{escaped, quoted}
use Rattle.dap_reply.specs.Fault.{code_lines, constraint_message, error_text, message_lines, fault_code, fault_message, path_message, projection_message}
use Rattle.dap_reply.proofs.examples.refused_constraints.Goals as goal

pub returns-clause-grammar : goal.returns-clause-grammar
unfolding error_text code_lines message_lines fault_code fault_message constraint_message projection_message
    path_message quoted escaped digits
returns-clause-grammar c = refl

pub returns-clause-selection : goal.returns-clause-selection
unfolding error_text code_lines message_lines fault_code fault_message constraint_message projection_message
    path_message quoted escaped digits
returns-clause-selection c = refl

pub returns-clause-variable : goal.returns-clause-variable
unfolding error_text code_lines message_lines fault_code fault_message constraint_message projection_message
    path_message quoted escaped digits
returns-clause-variable c = refl

pub returns-clause-rank : goal.returns-clause-rank
unfolding error_text code_lines message_lines fault_code fault_message constraint_message projection_message
    path_message quoted escaped digits
returns-clause-rank c = refl

pub returns-clause-range : goal.returns-clause-range
unfolding error_text code_lines message_lines fault_code fault_message constraint_message projection_message
    path_message quoted escaped digits
returns-clause-range c = refl

pub returns-clause-conflict : goal.returns-clause-conflict
unfolding error_text code_lines message_lines fault_code fault_message constraint_message projection_message
    path_message quoted escaped digits
returns-clause-conflict c = refl
