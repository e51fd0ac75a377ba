-- Taking in goes on from turn to turn, and ends as its last turn did.
use Rattle.std.proofs.Common.{◌≡◌, ◌∙◌, refl, arith, rules}
use Rattle.pub_look.specs.History.{Continues}
use Rattle.srv_ingest.specs.declared.report.IngestEnd.TheVariants as ends
use Rattle.srv_ingest.proofs.SoFar.{EndsIngest-stopped, later-seen, later-stopped, proto-seen, proto-stopped, SettledWith-seen, SettledWith-stopped, share-fits, share-more, share-stopped, SoFar-more, SoFar-none, with_end}
use Rattle.srv_ingest.proofs.ingest.ingest_all.Goals as goal

pub loop-init : goal.loop-init
loop-init g c = (
  tt,
  tt,
  SoFar-none c.args.proto.now (g.I.Inbox.shown c.args.inbox.now) c.args.pass.now
      (record { published = 0; retracted = 0; refused = 0; short = 0; end = ends.InboxFault }) refl refl refl refl,
  omega arith,
  refl,
  refl,
)

pub take_next-requires-clause-proto : goal.take_next-requires-clause-proto
take_next-requires-clause-proto g c = c.requires

pub take_next-requires-clause-fits : goal.take_next-requires-clause-fits
take_next-requires-clause-fits g c =
    share-fits c.args.share.now c.loop.seat.share.now c.loop.report c.loop.invariant.3

pub loop-preserved : goal.loop-preserved
loop-preserved g c = (
  tt,
  tt,
  SoFar-more c.args.proto.now (g.I.Inbox.shown c.args.inbox.now) (g.I.Inbox.shown c.loop.inbox)
      (g.I.Inbox.shown c.take_next.new.inbox) c.args.pass.now c.loop.seat.pass.now c.take_next.new.seat.pass.now
      c.loop.report c.take_next.new.report c.loop.invariant.2 c.in_default.ensures.takes,
  share-more c.args.share.now c.loop.seat.share.now c.take_next.new.seat.share.now c.loop.report
      c.take_next.new.report c.loop.invariant.3 c.in_default.ensures.counted,
  c.in_default.ensures.same.0 ∙ c.loop.invariant.4,
  c.in_default.ensures.same.1 ∙ c.loop.invariant.5,
)

pub returns-in-Some-take_next-clause-settles : goal.returns-in-Some-take_next-clause-settles
returns-in-Some-take_next-clause-settles g c =
    let settled = SettledWith-stopped c.args.proto.now (g.I.Inbox.shown c.args.inbox.now)
    (g.I.Inbox.shown c.loop.inbox) (g.I.Inbox.shown c.take_next.new.inbox) c.args.pass.now c.loop.seat.pass.now
    c.take_next.new.seat.pass.now c.loop.report c.take_next.new.report
    (with_end c.take_next.new.report c.in-Some-take_next.end) c.in-Some-take_next.end c.loop.invariant.2
    c.in-Some-take_next.ensures.takes refl in
    SettledWith-seen settled (search rules)

pub returns-in-Some-take_next-clause-end : goal.returns-in-Some-take_next-clause-end
returns-in-Some-take_next-clause-end g c =
    EndsIngest-stopped c.loop.invariant.2 c.in-Some-take_next.ensures.takes

pub returns-in-Some-take_next-clause-counted : goal.returns-in-Some-take_next-clause-counted
returns-in-Some-take_next-clause-counted g c =
    share-stopped c.args.share.now c.loop.seat.share.now c.take_next.new.seat.share.now _ c.loop.report
    c.take_next.new.report c.loop.invariant.3 c.in-Some-take_next.ensures.counted (search rules)

pub returns-in-Some-take_next-clause-later : goal.returns-in-Some-take_next-clause-later
returns-in-Some-take_next-clause-later g c =
    let later : Continues c.args.pass.now.seen c.take_next.new.seat.pass.now.seen = later-stopped c.args.proto.now
    (g.I.Inbox.shown c.args.inbox.now) (g.I.Inbox.shown c.loop.inbox) (g.I.Inbox.shown c.take_next.new.inbox)
    c.args.pass.now c.loop.seat.pass.now c.take_next.new.seat.pass.now c.loop.report c.take_next.new.report
    c.in-Some-take_next.end c.loop.invariant.2 c.in-Some-take_next.ensures.takes in
    search (rules, later, later-seen)

pub returns-in-Some-take_next-clause-same_proto : goal.returns-in-Some-take_next-clause-same_proto
returns-in-Some-take_next-clause-same_proto g c =
    let stays : c.take_next.new.seat.pass.now.proto ≡ c.args.pass.now.proto = proto-stopped c.args.proto.now
    (g.I.Inbox.shown c.args.inbox.now) (g.I.Inbox.shown c.loop.inbox) (g.I.Inbox.shown c.take_next.new.inbox)
    c.args.pass.now c.loop.seat.pass.now c.take_next.new.seat.pass.now c.loop.report c.take_next.new.report
    c.in-Some-take_next.end c.loop.invariant.2 c.in-Some-take_next.ensures.takes in
    search (rules, stays, proto-seen)
