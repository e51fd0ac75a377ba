-- By computing.
use Rattle.std.proofs.Common.{refl}
use Rattle.std.specs.Fmt.{digits}
use Rattle.fm_bits.specs.Quoted.{escaped, quoted}
use Rattle.dap_reply.specs.Fault.{code_lines, error_text, message_lines, fault_code, fault_message}
use Rattle.dap_reply.proofs.examples.no_rows.Goals as goal

pub returns-clause-text : goal.returns-clause-text
unfolding error_text code_lines message_lines fault_code fault_message quoted escaped digits
returns-clause-text c = refl

pub returns-clause-length : goal.returns-clause-length
unfolding error_text code_lines message_lines fault_code fault_message quoted escaped digits
returns-clause-length c = refl
