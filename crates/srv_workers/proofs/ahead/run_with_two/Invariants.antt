use Rattle.srv_workers.specs.Opened.{blank_at}
use Rattle.srv_workers.proofs.ahead.run_with_two.Given as goal

-- the desk of the blank before
abbrev pub ghosts-run_with_one-N-Name : goal.ghosts-run_with_one-N-Name
ghosts-run_with_one-N-Name g a = record { book = (blank_at 1 a.blanks).book; proto = (blank_at 1 a.blanks).proto }

abbrev pub ghosts-run_with_one-N-Ledger : goal.ghosts-run_with_one-N-Ledger
ghosts-run_with_one-N-Ledger g a =
    record { name = (blank_at 1 a.blanks).ledger; parts = (blank_at 1 a.blanks).shares }
