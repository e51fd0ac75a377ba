-- The variable that is looked for stands among those that are left.
use Rattle.std.proofs.Common.{◌≡◌, drop, find}
use Rattle.fm_file.specs.Named.{has_name}
use Rattle.fm_file.proofs.variable.first_named.Given as goal

abbrev pub invariant-loop-number : goal.invariant-loop-number
invariant-loop-number l = find (has_name l.name) (drop l.number l.vars) ≡ find (has_name l.name) l.vars
