-- Each step changes one part of the command.
use Rattle.std.proofs.Common.{◌∙◌, true, ap}
use Rattle.clap.specs.Simple.{App, Shape, app_of_fields, on_top}
use Rattle.srv_words.proofs.command.wanting.Goals as goal

pub returns : goal.returns
returns c =
    ap app_of_fields c.subcommand_required.ensures
    ∙ ap (λ (a : App). on_top (λ (s : Shape). record s { subcommand_required = true }) a)
    (ap app_of_fields c.no_binary_name.ensures)
