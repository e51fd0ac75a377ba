-- The variables before the index were written.
use Rattle.std.proofs.Common.{◌≡◌, ◌++◌, map, take}
use Rattle.dap_das.specs.Attributes.{variable_container}
use Rattle.dap_das.specs.AttributeText.{containers_text}
use Rattle.dap_das.proofs.text.put_variables.Given as goal

abbrev pub invariant-loop-var : goal.invariant-loop-var
invariant-loop-var l =
    l.out ≡ l.fn.out ++ containers_text (map (variable_container l.proto l.view) (take l.var-index l.vars))
