-- The desk that is named stands before the others.
use Rattle.std.proofs.Common.{◌∙◌, ℕ, List, IfOk, ap, arith, length, subst, sym}
use Rattle.fm_model.specs.declared.proto.Proto.{Proto}
use Rattle.dap_reply.specs.Collections.{Collections}
use Rattle.pub_snap.specs.Opening.{IsNamed}
use Rattle.srv_workers.specs.Opened.{HasOneEach}
use Rattle.srv_workers.specs.Several.{RanAmong}
use Rattle.srv_workers.proofs.BlankLemmas.{first-named}
use Rattle.srv_workers.proofs.BothLemmas.{all-protos, count-all}
use Rattle.srv_workers.proofs.CollectLemmas.{over-all}
use Rattle.srv_workers.proofs.ahead.run_with.Goals as goal

pub run_desks-requires-clause-blanks : goal.run_desks-requires-clause-blanks
run_desks-requires-clause-blanks g c _ _ =
    first-named (λ blank. IsNamed blank g.N.Name.book g.N.Ledger.name g.N.Name.proto g.N.Ledger.parts)
    (g.X.Behind.are_blank (length c.args.devices.now.doors) c.args.clocks) (length c.args.devices.now.doors)
    c.args.clocks 0 c.args.protos.now c.args.blanks c.requires.blanks c.requires.few.0 c.requires.first
    c.requires.others

pub run_desks-requires-clause-protos : goal.run_desks-requires-clause-protos
run_desks-requires-clause-protos g c _ _ =
    c.requires.protos ∙ sym (all-protos g.N.Name.proto g.X.Desks.means.them)

-- there are as many prototypes as desks
pub run_desks-requires-clause-devices : goal.run_desks-requires-clause-devices
run_desks-requires-clause-devices g c _ _ =
    subst (λ (n : ℕ). HasOneEach n c.args.clocks c.args.devices.now)
    (ap (λ (l : List Proto). length l) c.requires.protos ∙ count-all g.N.Name.proto g.X.Desks.means.them)
    c.requires.devices

pub run_desks-requires-clause-few : goal.run_desks-requires-clause-few
run_desks-requires-clause-few g c _ _ = omega (
  arith,
  c.requires.few.1,
  ap (λ (l : List Proto). length l) c.requires.protos,
  count-all g.N.Name.proto g.X.Desks.means.them,
)

-- the collections are those over the prototypes
pub returns-clause-ran : goal.returns-clause-ran
returns-clause-ran g c =
    subst (λ (them : Collections). IfOk c.run_desks.result (RanAmong g.M.D.Door.shown g.M.D.L.Link.shown
    g.M.I.Inbox.shown g.M.C.Clock.shown them c.args.keep c.args.devices.now c.run_desks.new.devices))
    (over-all c.args.protos.now g.N.Name.proto g.X.Desks.means.them c.requires.protos) c.run_desks.ensures.ran
