-- A name was given: the inbox failed before there was a verdict, or did not take it, or took it.
use Rattle.srv_ingest.proofs.TurnLemmas.{settles-last, SettlesNext-taken, StopsNext-unfound, StopsNext-untaken}
use Rattle.srv_ingest.proofs.turn.take_next.Goals as goal

pub returns-in_default-clause-takes : goal.returns-in_default-clause-takes
returns-in_default-clause-takes g c =
    let next = c.in-Ok.ensures in
    StopsNext-unfound _ next.0 next.1 next.2 c.in_default.ensures.finds

pub returns-in-Ok-settle-clause-takes : goal.returns-in-Ok-settle-clause-takes
returns-in-Ok-settle-clause-takes g c =
    let next = c.in-Ok.ensures in
    let found = rw c.as_slice-name.ensures at c.in-Ok-verdict_on.ensures.finds in
    let counted = rw c.as_slice-name.ensures at c.count_published.ensures in
    SettlesNext-taken next.0 next.1 next.2 found counted c.in-Ok-settle.ensures.ok c.in-Ok-settle.ensures.cause
    c.count_settled.ensures

pub returns-clause-takes : goal.returns-clause-takes
returns-clause-takes g c =
    let next = c.in-Ok.ensures in
    let found = rw c.as_slice-name.ensures at c.in-Ok-verdict_on.ensures.finds in
    let counted = rw c.as_slice-name.ensures at c.count_published.ensures in
    StopsNext-untaken next.0 next.1 next.2 found counted c.in-Err-settle.ensures.err c.in-Err-settle.ensures.cause

pub settle-requires : goal.settle-requires
settle-requires g c =
    let next = c.in-Ok.ensures in
    let found = rw c.as_slice-name.ensures at c.in-Ok-verdict_on.ensures.finds in
    record { last = rw c.as_slice-name.ensures (settles-last _ _ _ found.told _ next.0 found.held_is) }
