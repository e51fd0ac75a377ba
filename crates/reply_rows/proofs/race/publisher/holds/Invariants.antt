-- The desk that is then opened.
use Rattle.reply_rows.proofs.race.publisher.holds.Given as goal

abbrev pub ghosts-holds_for-N-Name : goal.ghosts-holds_for-N-Name
ghosts-holds_for-N-Name g a = record { book = a.blank.book; proto = a.blank.proto }

abbrev pub ghosts-holds_for-N-Ledger : goal.ghosts-holds_for-N-Ledger
ghosts-holds_for-N-Ledger g a = record { name = a.blank.ledger; parts = a.blank.shares }
