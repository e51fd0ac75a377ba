use Rattle.std.proofs.Common.{ℕ, List, ap, arith, length, subst, sym}
use Rattle.srv_workers.specs.Places.{HasPlaces}
use Rattle.srv_workers.proofs.AloneLemmas.{RanTogether-one}
use Rattle.srv_workers.proofs.GivenLemmas.{IsGiven-one, of-many}
use Rattle.srv_workers.proofs.workers.run_opened.Goals as goal

-- there are passes, shares and prototypes for all
pub given_at-given-requires-clause-passes : goal.given_at-given-requires-clause-passes
given_at-given-requires-clause-passes g c = of-many _ _ _ _ c.requires.passes (omega (
  arith,
  c.len-doors.ensures,
  c.len-inboxes.ensures,
  c.len.ensures,
))

pub given_at-given-requires-clause-shares : goal.given_at-given-requires-clause-shares
given_at-given-requires-clause-shares g c = of-many _ _ _ _ c.requires.shares (omega (
  arith,
  c.len-inboxes.ensures,
  c.len.ensures,
))

pub given_at-given-requires-clause-places : goal.given_at-given-requires-clause-places
given_at-given-requires-clause-places g c =
    let devices = c.args.devices.now in
    let proto = g.N.Name.proto in
    let places = c.args.ready.places in
    let inboxes = c.len-inboxes.result in
    let clocks = c.len.result in
    subst (λ (n : ℕ). HasPlaces proto n inboxes clocks places) (sym c.len-doors.ensures)
    (subst (λ (n : ℕ). HasPlaces proto (length devices.doors) n clocks places) (sym c.len-inboxes.ensures)
    (subst (λ (n : ℕ). HasPlaces proto (length devices.doors) (length devices.inboxes) n places) (sym c.len.ensures)
    c.requires.places))

-- each worker is given a pass, and each but the doors' a share
pub run_over-outcomes-requires-clause-given : goal.run_over-outcomes-requires-clause-given
run_over-outcomes-requires-clause-given g c _ _ =
    IsGiven-one g.N.Name.proto _ c.len-doors.result c.len-inboxes.result c.len.result c.args.devices.now
    c.given_at-given.result c.len-doors.ensures c.len-inboxes.ensures c.len.ensures
    (omega (arith, c.requires.parts, c.len-inboxes.ensures, c.len.ensures))
    c.given_at-given.ensures.eyes c.given_at-given.ensures.at_inboxes c.given_at-given.ensures.at_clocks

-- there is room
pub run_over-outcomes-requires-clause-back : goal.run_over-outcomes-requires-clause-back
run_over-outcomes-requires-clause-back g c _ _ = record {
  none = λ number below. c.requires.back.0;
  free = λ number below. c.requires.back.1;
}

pub run_over-outcomes-requires-clause-room : goal.run_over-outcomes-requires-clause-room
run_over-outcomes-requires-clause-room g c _ _ = c.requires.room

pub run_over-outcomes-requires-clause-some : goal.run_over-outcomes-requires-clause-some
run_over-outcomes-requires-clause-some g c _ _ = c.requires.some

pub run_over-outcomes-requires-clause-few : goal.run_over-outcomes-requires-clause-few
run_over-outcomes-requires-clause-few g c _ _ = c.requires.few

-- one desk was closed
pub of_one-requires : goal.of_one-requires
of_one-requires g c = ap (λ (l : List _). length l) c.run_over-outcomes.ensures.closed

-- all ran together
pub returns : goal.returns
returns g c =
    RanTogether-one g.M.D.Door.shown g.M.D.L.Link.shown g.M.I.Inbox.shown g.M.C.Clock.shown g.N.Name.proto
    c.args.keep c.given_at-given.result c.args.devices.now c.run_over-outcomes.new.devices c.run_over-outcomes.result
    c.of_one.result c.run_over-outcomes.ensures c.of_one.ensures
