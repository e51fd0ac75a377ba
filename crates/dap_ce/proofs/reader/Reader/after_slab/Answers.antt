-- What follows a slab needs nothing of the offset.
use Rattle.dap_ce.proofs.reader.Reader.after_slab.Goals as goal

pub returns-then-byte-eq91-clause-fits : goal.returns-then-byte-eq91-clause-fits
returns-then-byte-eq91-clause-fits c = λ at _. c.in_ok-follow.ensures.fits at
