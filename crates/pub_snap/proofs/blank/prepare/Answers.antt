-- The empty edition stands for no operations.
use Rattle.pub_look.proofs.HistoryLemmas.{Keeps-none}
use Rattle.pub_snap.proofs.blank.prepare.Goals as goal

pub of-requires : goal.of-requires
of-requires c =
    rw (c.open-page.ensures.log, c.in_ok-edition-2.ensures, c.in_ok-edition.ensures)
    (Keeps-none c.args.proto c.requires.proto)
