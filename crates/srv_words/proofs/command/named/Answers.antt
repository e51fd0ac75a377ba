-- The help changes no rule.
use Rattle.std.proofs.Common.{◌∙◌, ap}
use Rattle.clap.specs.Simple.{app_of_fields, new_app}
use Rattle.clap.specs.declared.builder.command.Command.{Command}
use Rattle.clap.specs.declared.builder.command.Command.TheOpen.{Command-F}
use Rattle.srv_words.proofs.command.named.Goals as goal

pub returns : goal.returns
returns c =
    record {
      app = ap app_of_fields c.about.ensures ∙ c.new.ensures.app ∙ ap new_app c.name.ensures;
      plain = ap (λ (fields : Command-F Command). fields.has_globals) c.about.ensures ∙ c.new.ensures.local;
    }
