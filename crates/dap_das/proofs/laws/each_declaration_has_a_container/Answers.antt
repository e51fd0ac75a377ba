-- Each variable's container has its name, and the two that follow have theirs.
use Rattle.dap_das.proofs.Variables.{container_names}
use Rattle.dap_das.proofs.laws.each_declaration_has_a_container.Goals as goal

pub returns : goal.returns
returns c = container_names c.args.proto.now c.args.view.now
