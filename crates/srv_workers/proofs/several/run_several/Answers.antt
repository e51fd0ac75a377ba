use Rattle.std.proofs.Common.{◌-◌, ℕ, arith, length, refl, subst}
use Rattle.srv_workers.specs.Opened.{AreBlanks}
use Rattle.srv_workers.proofs.BlankLemmas.{none-left, protos-from}
use Rattle.srv_workers.proofs.CollectLemmas.{HasOneEach-is}
use Rattle.srv_workers.proofs.several.run_several.Goals as goal

pub blanks_of-requires-clause-prototypes : goal.blanks_of-requires-clause-prototypes
blanks_of-requires-clause-prototypes g c = c.requires.protos.2

pub blanks_of-requires-clause-few : goal.blanks_of-requires-clause-few
blanks_of-requires-clause-few g c = (
  omega (arith, c.requires.doors.0, c.len.ensures),
  omega (arith, c.requires.doors.1, c.len.ensures),
  c.clocks_each-clocks.ensures.few,
)

pub run_last-requires-clause-blanks : goal.run_last-requires-clause-blanks
run_last-requires-clause-blanks g c _ _ =
    subst (λ (doors : ℕ). AreBlanks doors c.clocks_each-clocks.result c.args.protos.now c.in_ok-blanks.blanks)
    c.len.ensures c.in_ok-blanks.ensures

pub run_last-requires-clause-last : goal.run_last-requires-clause-last
run_last-requires-clause-last g c _ _ =
    record { book_is = refl; ledger_is = refl; proto_is = refl; parts_are = refl }

pub run_last-requires-clause-protos : goal.run_last-requires-clause-protos
run_last-requires-clause-protos g c _ _ =
    protos-from c.len.result c.clocks_each-clocks.result (length c.args.protos.now - 1) c.args.protos.now
    c.in_ok-blanks.blanks _ _ c.in_ok-blanks.ensures (omega (arith, c.requires.protos.0)) refl
    (none-left c.args.protos.now)

pub run_last-requires-clause-few : goal.run_last-requires-clause-few
run_last-requires-clause-few g c _ _ = (c.requires.protos.0, c.requires.protos.1)

pub run_last-requires-clause-devices : goal.run_last-requires-clause-devices
run_last-requires-clause-devices g c _ _ =
    HasOneEach-is (length c.args.protos.now) c.clocks_each-clocks.result (length c.args.protos.now)
    c.args.devices.now refl (omega (arith, c.requires.protos.0)) c.requires.doors c.requires.inboxes
    c.requires.clocks c.clocks_each-clocks.ensures.none c.clocks_each-clocks.ensures.some
