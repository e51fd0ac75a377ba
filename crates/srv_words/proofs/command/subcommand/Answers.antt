-- All that stands behind a command, on the command.
use Rattle.std.proofs.Common.{◌∙◌, ap}
use Rattle.clap.specs.Simple.{App, app_of, new_app}
use Rattle.srv_words.specs.Command.{name_of, rules_in, subcommand, with_rules}
use Rattle.srv_words.proofs.CommandLemmas.{args_made, ok_as}
use Rattle.srv_words.proofs.command.subcommand.Goals as goal

pub returns : goal.returns
unfolding subcommand
returns c =
    let args = c.in_ok-arguments.arguments.items in
    let added = args_made c.named.result args c.args-2.result c.made.result c.made.ensures c.args-2.ensures
    c.in_ok-arguments.ensures.local c.named.ensures.plain in
    record {
      app = ok_as app_of c.made.result
          (ap (λ (a : App). with_rules a (rules_in args)) c.named.ensures.app
          ∙ ap (with_rules (new_app (name_of c.args.command)))
          (c.in_ok-arguments.ensures.rules ∙ c.arguments_of.ensures))
          added.0;
      plain = added.1;
    }
