-- The subcommands are those of the commands before.
use Rattle.std.proofs.Common.{◌≡◌, map, take}
use Rattle.clap.specs.Simple.{app_of}
use Rattle.srv_words.specs.Command.{are_plain, subcommand}
use Rattle.srv_words.proofs.command.commands_from.Given as goal

abbrev pub invariant-loop-command : goal.invariant-loop-command
invariant-loop-command l = record {
  apps : map app_of l.list.items ≡ map subcommand (take l.command-index l.commands);
  plain : are_plain l.list.items;
}
