use Rattle.std.proofs.Common.{◌∙◌, ℕ, List, ap, ap₂, arith, length, map, replicate, subst, sym}
use Rattle.fm_model.specs.declared.proto.Proto.{Proto}
use Rattle.srv_workers.specs.Room.{IsRoomFor}
use Rattle.srv_workers.proofs.FirstLemmas.{length-first}
use Rattle.srv_workers.proofs.EachLemmas.{length-each-le}
use Rattle.srv_workers.proofs.SeveralLemmas.{RanAmong-is}
use Rattle.srv_workers.proofs.ShareLemmas.{IsGiven-all}
use Rattle.srv_workers.proofs.many.run_desks.Goals as goal

-- there are few devices
pub made_for-requires-clause-few : goal.made_for-requires-clause-few
made_for-requires-clause-few g c = omega (
  arith,
  c.requires.few,
  c.requires.devices.few,
  c.requires.devices.inboxes_are,
  c.requires.devices.clocks_are,
  length-each-le c.args.clocks g.X.Desks.means.them.count (λ (number : ℕ). number) c.requires.devices.at_most,
)

pub made_for-requires-clause-clocks : goal.made_for-requires-clause-clocks
made_for-requires-clause-clocks g c = c.requires.devices.at_most

-- the desks are opened for as many doors as there are
pub open-requires-clause-blanks : goal.open-requires-clause-blanks
open-requires-clause-blanks g c =
    subst (λ (doors : ℕ). g.X.Behind.are_blank doors c.args.clocks c.args.blanks) (sym c.len-doors.ensures)
    c.requires.blanks

pub open-requires-clause-protos : goal.open-requires-clause-protos
open-requires-clause-protos g c = c.requires.protos

pub open-requires-clause-few : goal.open-requires-clause-few
open-requires-clause-few g c =
    (omega (arith, c.requires.devices.few, c.len-doors.ensures), c.requires.devices.at_most)

-- each door has a copy of the prototypes
pub given_with-given-requires-clause-copies : goal.given_with-given-requires-clause-copies
given_with-given-requires-clause-copies g c =
    c.in-Ok.ensures.copies ∙ ap₂ (λ (n : ℕ) (l : List Proto). replicate n l)
    (sym c.len-doors.ensures ∙ sym c.in-Ok-open.ensures.given.eyes_are) c.requires.protos

pub given_with-given-requires-clause-few : goal.given_with-given-requires-clause-few
given_with-given-requires-clause-few g c = c.requires.few

pub given_with-given-requires-clause-unseen : goal.given_with-given-requires-clause-unseen
given_with-given-requires-clause-unseen g c = c.in-Ok-open.ensures.given.unseen

pub given_with-given-requires-clause-room : goal.given_with-given-requires-clause-room
given_with-given-requires-clause-room g c = (
  c.in-Ok.ensures.slots.0,
  omega (arith, c.in-Ok.ensures.slots.1, c.len-doors.ensures, c.in-Ok-open.ensures.given.eyes_are),
)

-- the workers are given what the desks gave out
pub run_over-outcomes-requires-clause-given : goal.run_over-outcomes-requires-clause-given
run_over-outcomes-requires-clause-given g c _ _ =
    IsGiven-all g.X.Desks.means g.X.Desks.parts c.args.clocks c.args.devices.now c.given_with-given.result
    c.requires.devices c.in-Ok-open.ensures.parts
    (c.given_with-given.ensures.each ∙ c.in-Ok-open.ensures.given.eyes_are ∙ c.len-doors.ensures)
    c.given_with-given.ensures.unseen
    (ap (λ (l : List _). map g.X.Desks.means.publisher l) c.given_with-given.ensures.at_inboxes
    ∙ c.in-Ok-open.ensures.given.at_inboxes_are)
    (ap (λ (l : List _). map g.X.Desks.means.publisher l) c.given_with-given.ensures.at_clocks
    ∙ c.in-Ok-open.ensures.given.at_clocks_are)

-- there is room
pub run_over-outcomes-requires-clause-back : goal.run_over-outcomes-requires-clause-back
run_over-outcomes-requires-clause-back g c _ _ = record {
  none = c.in-Ok.ensures.back.none;
  free = λ number below. omega (
    arith,
    c.in-Ok.ensures.back.free number below,
    c.in-Ok-open.ensures.parts number below,
  );
}

pub run_over-outcomes-requires-clause-room : goal.run_over-outcomes-requires-clause-room
run_over-outcomes-requires-clause-room g c _ _ =
    subst (λ (count : ℕ). IsRoomFor c.args.devices.now count c.in-Ok.made.room.parts.back c.in-Ok.made.room)
    (ap (λ (l : List Proto). length l) c.requires.protos
    ∙ length-first g.X.Desks.means.them.count g.X.Desks.means.them.proto)
    c.in-Ok.ensures.room

pub run_over-outcomes-requires-clause-some : goal.run_over-outcomes-requires-clause-some
run_over-outcomes-requires-clause-some g c _ _ = c.requires.devices.some

pub run_over-outcomes-requires-clause-few : goal.run_over-outcomes-requires-clause-few
run_over-outcomes-requires-clause-few g c _ _ = omega (
  arith,
  c.requires.few,
  c.requires.devices.few,
  c.requires.devices.inboxes_are,
  c.requires.devices.clocks_are,
  length-each-le c.args.clocks g.X.Desks.means.them.count (λ (number : ℕ). number) c.requires.devices.at_most,
)

-- all ran over the collections
pub returns-clause-ran : goal.returns-clause-ran
returns-clause-ran g c =
    RanAmong-is g.M.D.Door.shown g.M.D.L.Link.shown g.M.I.Inbox.shown g.M.C.Clock.shown c.args.keep g.X.Desks.means
    c.args.clocks c.given_with-given.result c.args.devices.now c.run_over-outcomes.new.devices
    c.run_over-outcomes.result c.requires.devices.at_most
    (ap (λ (l : List _). map g.X.Desks.means.publisher l) c.given_with-given.ensures.at_inboxes
    ∙ c.in-Ok-open.ensures.given.at_inboxes_are)
    (ap (λ (l : List _). map g.X.Desks.means.publisher l) c.given_with-given.ensures.at_clocks
    ∙ c.in-Ok-open.ensures.given.at_clocks_are)
    c.run_over-outcomes.ensures
