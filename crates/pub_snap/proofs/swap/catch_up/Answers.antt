-- The board that was in the slot is put back once it caught up.
use Rattle.pub_snap.proofs.swap.catch_up.Goals as goal

pub returns-clause-kept : goal.returns-clause-kept
returns-clause-kept g c log booked was =
    let held = rw (← c.take.ensures.value, c.unwrap-board.ensures) at was in
    rw c.replace.ensures.after (c.show_again-board.ensures log booked held)
