use Rattle.srv_workers.specs.Opened.{blank_at}
use Rattle.srv_workers.proofs.ahead.run_with_one.Given as goal

-- the desk of the blank before
abbrev pub ghosts-run_with-N-Name : goal.ghosts-run_with-N-Name
ghosts-run_with-N-Name g a = record { book = (blank_at 0 a.blanks).book; proto = (blank_at 0 a.blanks).proto }

abbrev pub ghosts-run_with-N-Ledger : goal.ghosts-run_with-N-Ledger
ghosts-run_with-N-Ledger g a =
    record { name = (blank_at 0 a.blanks).ledger; parts = (blank_at 0 a.blanks).shares }
