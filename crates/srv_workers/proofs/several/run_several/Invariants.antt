use Rattle.std.proofs.Common.{◌-◌, length}
use Rattle.srv_workers.specs.Opened.{blank_at}
use Rattle.srv_workers.proofs.several.run_several.Given as goal

-- the last desk
abbrev pub ghosts-run_last-N-Name : goal.ghosts-run_last-N-Name
ghosts-run_last-N-Name g a =
    let last = blank_at (length a.protos.now - 1) a.blanks in record { book = last.book; proto = last.proto }

abbrev pub ghosts-run_last-N-Ledger : goal.ghosts-run_last-N-Ledger
ghosts-run_last-N-Ledger g a =
    let last = blank_at (length a.protos.now - 1) a.blanks in record { name = last.ledger; parts = last.shares }
