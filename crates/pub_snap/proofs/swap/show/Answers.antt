-- The copy that was appended last is shown.
use Rattle.pub_snap.proofs.swap.show.Goals as goal

pub returns : goal.returns
returns g c = rw c.replace.ensures.after (c.swap-board.ensures c.args.next c.append.ensures.last)
