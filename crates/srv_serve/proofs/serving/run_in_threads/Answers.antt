-- The workers ran over all that was opened, or memory ran out for them.
use Rattle.std.proofs.Common.{inr, arith}
use Rattle.std.proofs.lemmas.Result.{err_from_is_err_and}
use Rattle.srv_serve.proofs.RunLemmas.{one-clock}
use Rattle.srv_serve.proofs.serving.run_in_threads.Goals as goal

pub run_workers-requires-clause-doors : goal.run_workers-requires-clause-doors
run_workers-requires-clause-doors g c _ _ =
    let all = c.in_ok-open_served.ensures.opens.all in
    let serving = c.requires.serving in
    (omega (arith, all.doors, serving.some_workers), omega (arith, all.doors, serving.few_workers))

pub run_workers-requires-clause-inboxes : goal.run_workers-requires-clause-inboxes
run_workers-requires-clause-inboxes g c _ _ =
    let all = c.in_ok-open_served.ensures.opens.all in (
      omega (arith, all.inboxes, c.requires.serving.some_inboxes),
      omega (arith, all.inboxes, c.requires.serving.few_inboxes),
    )

pub run_workers-requires-clause-clocks : goal.run_workers-requires-clause-clocks
run_workers-requires-clause-clocks g c _ _ =
    omega (arith, c.in_ok-open_served.ensures.opens.all.clocks, one-clock c.args.serving.now.keep)

pub returns-in_err-open_served-clause-stopped : goal.returns-in_err-open_served-clause-stopped
returns-in_err-open_served-clause-stopped g c =
    let p = err_from_is_err_and c.from_residual.result c.from_residual.ensures.1 in
    rw (p.1, p.2) c.in_err-open_served.ensures.stopped

pub returns-in_err-outcome-clause-stopped : goal.returns-in_err-outcome-clause-stopped
returns-in_err-outcome-clause-stopped g c =
    let failed = c.from_residual-in_err-outcome in
    let p = err_from_is_err_and failed.result failed.ensures.1 in
    let opened = c.in_ok-open_served.ensures.opens in
    rw (p.1, p.2, c.in_err-outcome.ensures.none) (record {
      opened = opened.opened;
      told = inr opened.told;
      opens = opened.opens;
      stops = opened.all.calm;
    })

pub returns-clause-run : goal.returns-clause-run
returns-clause-run g c = record {
  devices = c.open_served.new.devices;
  opening = c.in_ok-open_served.ensures.opens;
  ran = rw c.kept-keep.ensures at c.in_ok-outcome.ensures.ran;
}
