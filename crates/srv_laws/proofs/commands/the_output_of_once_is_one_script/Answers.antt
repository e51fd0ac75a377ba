-- The bytes that the steps of a run put on its link.
use Rattle.srv_laws.proofs.WroteLemmas.{one-script, whole-script}
use Rattle.srv_laws.proofs.commands.the_output_of_once_is_one_script.Goals as goal

pub returns-clause-script : goal.returns-clause-script
returns-clause-script c = one-script

pub returns-clause-whole : goal.returns-clause-whole
returns-clause-whole c = whole-script
