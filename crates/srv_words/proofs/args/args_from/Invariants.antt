-- The arguments are those of the table's rows before, each of one command alone.
use Rattle.std.proofs.Common.{◌≡◌, map, take}
use Rattle.srv_words.specs.Command.{are_local, rule_in, rules_in}
use Rattle.srv_words.proofs.args.args_from.Given as goal

abbrev pub invariant-loop-argument : goal.invariant-loop-argument
invariant-loop-argument l = record {
  rules : rules_in l.args.items ≡ map rule_in (take l.argument-index l.arguments);
  local : are_local l.args.items;
}
