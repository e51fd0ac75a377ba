use Rattle.srv_workers.proofs.workers.run_workers.Given as goal

-- the desk that is then opened
abbrev pub ghosts-run_one-N-Name : goal.ghosts-run_one-N-Name
ghosts-run_one-N-Name g a = record { book = a.blank.book; proto = a.blank.proto }

abbrev pub ghosts-run_one-N-Ledger : goal.ghosts-run_one-N-Ledger
ghosts-run_one-N-Ledger g a = record { name = a.blank.ledger; parts = a.blank.shares }
