-- One desk more stands before the others.
use Rattle.std.proofs.Common.{◌∙◌, arith, length, refl, sym}
use Rattle.pub_snap.specs.Opening.{IsNamed}
use Rattle.srv_workers.proofs.BlankLemmas.{first-named, protos-from}
use Rattle.srv_workers.proofs.BothLemmas.{all-protos}
use Rattle.srv_workers.proofs.ahead.run_with_two.Goals as goal

pub run_with_one-requires-clause-blanks : goal.run_with_one-requires-clause-blanks
run_with_one-requires-clause-blanks g c _ _ = c.requires.blanks

pub run_with_one-requires-clause-first : goal.run_with_one-requires-clause-first
run_with_one-requires-clause-first g c _ _ =
    record { book_is = refl; ledger_is = refl; proto_is = refl; parts_are = refl }

pub run_with_one-requires-clause-others : goal.run_with_one-requires-clause-others
run_with_one-requires-clause-others g c _ _ =
    first-named (λ blank. IsNamed blank g.N.Name.book g.N.Ledger.name g.N.Name.proto g.N.Ledger.parts)
    (g.X.Behind.are_blank (length c.args.devices.now.doors) c.args.clocks) (length c.args.devices.now.doors)
    c.args.clocks 2 c.args.protos.now c.args.blanks c.requires.blanks c.requires.few.0 c.requires.first
    c.requires.others

pub run_with_one-requires-clause-protos : goal.run_with_one-requires-clause-protos
run_with_one-requires-clause-protos g c _ _ =
    protos-from (length c.args.devices.now.doors) c.args.clocks 1 c.args.protos.now c.args.blanks _ _
    c.requires.blanks (omega (arith, c.requires.few.0)) refl
    (c.requires.protos ∙ sym (all-protos g.N.Name.proto g.X.Desks.means.them))

pub run_with_one-requires-clause-few : goal.run_with_one-requires-clause-few
run_with_one-requires-clause-few g c _ _ = (omega (arith, c.requires.few.0), c.requires.few.1)

pub run_with_one-requires-clause-devices : goal.run_with_one-requires-clause-devices
run_with_one-requires-clause-devices g c _ _ = c.requires.devices
