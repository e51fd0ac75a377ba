-- The variable that is looked for stands among those that are left.
use Rattle.std.proofs.Common.{◌≡◌, drop, find}
use Rattle.fm_model.specs.Variable.{has_standard_name}
use Rattle.fm_file.proofs.variable.first_with_standard_name.Given as goal

abbrev pub invariant-loop-number : goal.invariant-loop-number
invariant-loop-number l =
    find (has_standard_name l.text) (drop l.number l.vars) ≡ find (has_standard_name l.text) l.vars
