-- The commands of the program, one after the other.
use Rattle.srv_words.proofs.CommandLemmas.{all_made}
use Rattle.srv_words.proofs.command.fmrcd.Goals as goal

pub returns-in-Ok : goal.returns-in-Ok
returns-in-Ok c =
    all_made c.in-Ok.command c.in_ok-list.list.items c.subcommands.result c.made.result c.made.ensures
    c.subcommands.ensures c.in-Ok.ensures c.in_ok-list.ensures.apps c.in_ok-list.ensures.plain
