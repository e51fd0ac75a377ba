use Rattle.srv_workers.proofs.joining.given_all.Goals as goal

-- there is room for all
pub rows_of-eyes-requires-clause-empty : goal.rows_of-eyes-requires-clause-empty
rows_of-eyes-requires-clause-empty g c = c.requires.vacant.no_eyes

pub rows_of-eyes-requires-clause-free : goal.rows_of-eyes-requires-clause-free
rows_of-eyes-requires-clause-free g c = c.requires.vacant.eyes

pub hands_in-at_inboxes-requires-clause-empty : goal.hands_in-at_inboxes-requires-clause-empty
hands_in-at_inboxes-requires-clause-empty g c = c.requires.vacant.no_at_inboxes

pub hands_in-at_inboxes-requires-clause-free : goal.hands_in-at_inboxes-requires-clause-free
hands_in-at_inboxes-requires-clause-free g c = c.requires.vacant.at_inboxes

pub hands_in-at_clocks-requires-clause-empty : goal.hands_in-at_clocks-requires-clause-empty
hands_in-at_clocks-requires-clause-empty g c = c.requires.vacant.no_at_clocks

pub hands_in-at_clocks-requires-clause-free : goal.hands_in-at_clocks-requires-clause-free
hands_in-at_clocks-requires-clause-free g c = c.requires.vacant.at_clocks
