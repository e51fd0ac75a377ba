-- What stands as it is sent is of another kind.
use Rattle.dap_xdr.proofs.lending.lent.Goals as goal

pub lent_few-requires-clause-number : goal.lent_few-requires-clause-number
lent_few-requires-clause-number c = c.stands_as_sent.ensures.number c.if-not-stands_as_sent.false

pub lent_few-requires-clause-same : goal.lent_few-requires-clause-same
lent_few-requires-clause-same c = c.stands_as_sent.ensures.same c.if-not-stands_as_sent.false

pub lent_any-requires-clause-number : goal.lent_any-requires-clause-number
lent_any-requires-clause-number c = c.stands_as_sent.ensures.number c.if-not-stands_as_sent.false

pub lent_any-requires-clause-same : goal.lent_any-requires-clause-same
lent_any-requires-clause-same c = c.stands_as_sent.ensures.same c.if-not-stands_as_sent.false
