use Rattle.std.proofs.Common.{◌∙◌, arith, length, subst, sym}
use Rattle.fm_model.specs.declared.proto.Proto.{Proto}
use Rattle.srv_workers.specs.Places.{HasPlaces}
use Rattle.srv_workers.specs.Runs.{RanTogether}
use Rattle.srv_workers.proofs.GivenLemmas.{of-many}
use Rattle.srv_workers.proofs.workers.run_one.Goals as goal

-- there are passes, shares and prototypes for all
pub run_opened-requires-clause-passes : goal.run_opened-requires-clause-passes
run_opened-requires-clause-passes g c _ _ = of-many _ _ _ _ c.in-Ok-open.ensures.passes c.requires.passes

pub run_opened-requires-clause-shares : goal.run_opened-requires-clause-shares
run_opened-requires-clause-shares g c _ _ = of-many _ _ _ _ c.in-Ok-open.ensures.shares c.requires.shares

pub run_opened-requires-clause-parts : goal.run_opened-requires-clause-parts
run_opened-requires-clause-parts g c _ _ = sym c.requires.named.parts_are ∙ c.requires.shares

pub run_opened-requires-clause-places : goal.run_opened-requires-clause-places
run_opened-requires-clause-places g c _ _ =
    let devices = c.args.devices.now in
    subst (λ (p : Proto). HasPlaces p (length devices.doors) (length devices.inboxes) (length devices.clocks)
    c.in-Ok.ready.places) (sym c.requires.proto ∙ c.requires.named.proto_is) c.in-Ok.ensures.places

-- there is room
pub run_opened-requires-clause-room : goal.run_opened-requires-clause-room
run_opened-requires-clause-room g c _ _ = c.in-Ok.ensures.room

pub run_opened-requires-clause-back : goal.run_opened-requires-clause-back
run_opened-requires-clause-back g c _ _ = (
  c.in-Ok.ensures.back.0,
  omega (arith, c.in-Ok.ensures.back.1, c.requires.named.parts_are, c.requires.shares),
)

pub run_opened-requires-clause-some : goal.run_opened-requires-clause-some
run_opened-requires-clause-some g c _ _ = c.requires.some

pub run_opened-requires-clause-few : goal.run_opened-requires-clause-few
run_opened-requires-clause-few g c _ _ = c.requires.few

-- all ran together
pub returns-in-Ok-open-clause-ran : goal.returns-in-Ok-open-clause-ran
returns-in-Ok-open-clause-ran g c =
    subst (λ (p : Proto). RanTogether g.M.D.Door.shown g.M.D.L.Link.shown g.M.I.Inbox.shown g.M.C.Clock.shown p
    c.args.keep c.args.devices.now c.run_opened.new.devices c.run_opened.result)
    (sym c.requires.named.proto_is ∙ c.requires.proto) c.run_opened.ensures
