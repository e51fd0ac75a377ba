-- The desk before the last one is that of its blank.
use Rattle.srv_workers.specs.Opened.{blank_at}
use Rattle.srv_workers.proofs.several.run_before.Given as goal

abbrev pub ghosts-run_with-N-Name : goal.ghosts-run_with-N-Name
ghosts-run_with-N-Name g a = record { book = (blank_at 0 a.blanks).book; proto = (blank_at 0 a.blanks).proto }

abbrev pub ghosts-run_with-N-Ledger : goal.ghosts-run_with-N-Ledger
ghosts-run_with-N-Ledger g a =
    record { name = (blank_at 0 a.blanks).ledger; parts = (blank_at 0 a.blanks).shares }

abbrev pub ghosts-run_with_one-N-Name : goal.ghosts-run_with_one-N-Name
ghosts-run_with_one-N-Name g a = record { book = (blank_at 1 a.blanks).book; proto = (blank_at 1 a.blanks).proto }

abbrev pub ghosts-run_with_one-N-Ledger : goal.ghosts-run_with_one-N-Ledger
ghosts-run_with_one-N-Ledger g a =
    record { name = (blank_at 1 a.blanks).ledger; parts = (blank_at 1 a.blanks).shares }

abbrev pub ghosts-run_with_two-N-Name : goal.ghosts-run_with_two-N-Name
ghosts-run_with_two-N-Name g a = record { book = (blank_at 2 a.blanks).book; proto = (blank_at 2 a.blanks).proto }

abbrev pub ghosts-run_with_two-N-Ledger : goal.ghosts-run_with_two-N-Ledger
ghosts-run_with_two-N-Ledger g a =
    record { name = (blank_at 2 a.blanks).ledger; parts = (blank_at 2 a.blanks).shares }
