-- The last desk stands alone.
use Rattle.std.proofs.Common.{◌≡◌, ◌-◌, [], arith, length}
use Rattle.pub_snap.specs.Opening.{IsNamed}
use Rattle.srv_workers.proofs.BlankLemmas.{first-named, none-behind}
use Rattle.srv_workers.proofs.several.run_last.Goals as goal

pub run_before-requires-clause-last : goal.run_before-requires-clause-last
run_before-requires-clause-last g c _ _ =
    first-named (λ blank. IsNamed blank g.N.Name.book g.N.Ledger.name g.N.Name.proto g.N.Ledger.parts)
    (λ others. others ≡ []) (length c.args.devices.now.doors) c.args.clocks (length c.args.protos.now - 1)
    c.args.protos.now c.args.blanks c.requires.blanks (omega (arith, c.requires.few.0)) c.requires.last
    (none-behind (length c.args.devices.now.doors) c.args.clocks c.args.protos.now c.args.blanks c.requires.blanks)

pub run_before-requires-clause-protos : goal.run_before-requires-clause-protos
run_before-requires-clause-protos g c _ _ = c.requires.protos

pub run_before-requires-clause-blanks : goal.run_before-requires-clause-blanks
run_before-requires-clause-blanks g c _ _ = c.requires.blanks

pub run_before-requires-clause-few : goal.run_before-requires-clause-few
run_before-requires-clause-few g c _ _ = c.requires.few

pub run_before-requires-clause-devices : goal.run_before-requires-clause-devices
run_before-requires-clause-devices g c _ _ = c.requires.devices

pub returns-clause-ran : goal.returns-clause-ran
returns-clause-ran g c = c.run_before.ensures.ran
