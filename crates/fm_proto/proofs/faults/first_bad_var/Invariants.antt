-- What is looked for stands among those that are left.
use Rattle.std.proofs.Common.{◌≡◌, drop, map}
use Rattle.fm_proto.specs.Searches.{var_name, first_bad_name}
use Rattle.fm_proto.proofs.faults.first_bad_var.Given as goal

abbrev pub invariant-loop-var : goal.invariant-loop-var
invariant-loop-var l = first_bad_name (map var_name (drop l.var-index l.vars)) ≡ first_bad_name (map var_name l.vars)
