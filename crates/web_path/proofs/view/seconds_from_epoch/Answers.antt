-- What is no instant has no seconds.
use Rattle.std.proofs.Common.{ap, ◌∙◌}
use Rattle.std.specs.Option.{option_and_then}
use Rattle.web_path.specs.Reading.{from_epoch}
use Rattle.web_path.proofs.view.seconds_from_epoch.Goals as goal

pub returns-in_err-moment : goal.returns-in_err-moment
returns-in_err-moment c = c.from_residual.ensures
    ∙ ap (option_and_then (from_epoch c.args.site.now)) c.in_err-moment.ensures
