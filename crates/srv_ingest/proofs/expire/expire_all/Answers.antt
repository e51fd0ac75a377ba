-- Letting runs go goes on from moment to moment, and ends where no moment is left.
use Rattle.std.proofs.Common.{◌≡◌, ◌∙◌, refl, arith, rules}
use Rattle.pub_look.specs.History.{Continues}
use Rattle.srv_ingest.proofs.ExpireEnd.{AllSettledWith-all, AllSettledWith-seen, later-all, proto-all}
use Rattle.srv_ingest.proofs.ExpireLemmas.{count-fits, MomentsSoFar-more, MomentsSoFar-none, share-all, share-more}
use Rattle.srv_ingest.proofs.SoFar.{later-seen, proto-seen}
use Rattle.srv_ingest.proofs.expire.expire_all.Goals as goal

pub loop-init : goal.loop-init
loop-init g c = (
  tt,
  tt,
  MomentsSoFar-none c.args.keep c.args.site.now.epoch (g.C.Clock.shown c.args.clock.now) c.args.pass.now,
  omega arith,
  refl,
  refl,
)

pub count_expired-expired-requires : goal.count_expired-expired-requires
count_expired-expired-requires g c =
    count-fits c.args.keep c.args.site.now.epoch (g.C.Clock.shown c.loop.clock)
    (g.C.Clock.shown c.take_moment.new.clock) c.loop.seat.pass.now c.take_moment.new.seat.pass.now c.args.share.now
    c.loop.seat.share.now c.take_moment.new.seat.share.now c.loop.expired c.in-Some-take_moment.verdict
    c.in-Some-take_moment.ensures.takes c.loop.invariant.3

pub loop-preserved : goal.loop-preserved
loop-preserved g c = (
  tt,
  tt,
  MomentsSoFar-more c.args.keep c.args.site.now.epoch (g.C.Clock.shown c.args.clock.now)
      (g.C.Clock.shown c.loop.clock) (g.C.Clock.shown c.take_moment.new.clock) c.args.pass.now c.loop.seat.pass.now
      c.take_moment.new.seat.pass.now c.loop.seat.share.now c.take_moment.new.seat.share.now c.loop.expired
      c.count_expired-expired.result c.loop.short c.count_short-short.result c.in-Some-take_moment.verdict
      c.loop.invariant.2 c.in-Some-take_moment.ensures.takes c.count_expired-expired.ensures
      c.count_short-short.ensures,
  share-more c.args.keep c.args.site.now.epoch (g.C.Clock.shown c.loop.clock)
      (g.C.Clock.shown c.take_moment.new.clock) c.loop.seat.pass.now c.take_moment.new.seat.pass.now
      c.args.share.now c.loop.seat.share.now c.take_moment.new.seat.share.now c.loop.expired
      c.count_expired-expired.result c.in-Some-take_moment.verdict c.in-Some-take_moment.ensures.takes
      c.loop.invariant.3 c.count_expired-expired.ensures,
  c.in-Some-take_moment.ensures.same.0 ∙ c.loop.invariant.4,
  c.in-Some-take_moment.ensures.same.1 ∙ c.loop.invariant.5,
)

pub returns-in_default-clause-settles : goal.returns-in_default-clause-settles
returns-in_default-clause-settles g c =
    AllSettledWith-seen (AllSettledWith-all c.args.keep c.args.site.now.epoch (g.C.Clock.shown c.args.clock.now)
    (g.C.Clock.shown c.loop.clock) (g.C.Clock.shown c.take_moment.new.clock) c.args.pass.now c.loop.seat.pass.now
    c.take_moment.new.seat.pass.now c.loop.seat.share.now c.take_moment.new.seat.share.now c.loop.expired c.loop.short
    (record { expired = c.loop.expired; short = c.loop.short }) c.loop.invariant.2
    c.in_default.ensures.takes refl refl) (search rules)

pub returns-in_default-clause-counted : goal.returns-in_default-clause-counted
returns-in_default-clause-counted g c =
    share-all c.args.share.now c.loop.seat.share.now c.take_moment.new.seat.share.now _ c.loop.expired
    c.loop.invariant.3 c.in_default.ensures.takes.share_is (search rules)

pub returns-in_default-clause-later : goal.returns-in_default-clause-later
returns-in_default-clause-later g c =
    let later : Continues c.args.pass.now.seen c.take_moment.new.seat.pass.now.seen = later-all c.args.keep
    c.args.site.now.epoch (g.C.Clock.shown c.args.clock.now) (g.C.Clock.shown c.loop.clock)
    (g.C.Clock.shown c.take_moment.new.clock) c.args.pass.now c.loop.seat.pass.now c.take_moment.new.seat.pass.now
    c.loop.seat.share.now c.take_moment.new.seat.share.now c.loop.expired c.loop.short c.loop.invariant.2
    c.in_default.ensures.takes in
    search (rules, later, later-seen)

pub returns-in_default-clause-same_proto : goal.returns-in_default-clause-same_proto
returns-in_default-clause-same_proto g c =
    let stays : c.take_moment.new.seat.pass.now.proto ≡ c.args.pass.now.proto = proto-all c.args.keep
    c.args.site.now.epoch (g.C.Clock.shown c.args.clock.now) (g.C.Clock.shown c.loop.clock)
    (g.C.Clock.shown c.take_moment.new.clock) c.args.pass.now c.loop.seat.pass.now c.take_moment.new.seat.pass.now
    c.loop.seat.share.now c.take_moment.new.seat.share.now c.loop.expired c.loop.short c.loop.invariant.2
    c.in_default.ensures.takes in
    search (rules, stays, proto-seen)
