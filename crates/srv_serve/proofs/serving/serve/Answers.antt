-- The end of a run of `serve`, with its prototype and without it.
use Rattle.std.proofs.Common.{◌∙◌, inl, inr, refl, arith}
use Rattle.srv_serve.proofs.RunLemmas.{few-clocks, few-reports}
use Rattle.srv_serve.proofs.StageLemmas.{EndsUnserved-said}
use Rattle.srv_serve.proofs.serving.serve.Goals as goal

pub returns-in-Err : goal.returns-in-Err
returns-in-Err g c = record {
  runs = inl (record {
    ends = rw c.as_slice-path.ensures at c.in-Err.ensures.ends;
    leaves = record { opener_is = refl; devices_are = refl };
    reports = rw c.as_slice-path.ensures at c.report.ensures;
  });
  unused = refl;
  undialled = refl;
}

pub close-end-requires-clause-doors : goal.close-end-requires-clause-doors
close-end-requires-clause-doors g c =
    let run = c.in-Ok-run_in_threads.ensures.run in
    few-reports run.ran.doors (omega (arith, run.opening.all.doors, c.requires.few_workers))

pub close-end-requires-clause-inboxes : goal.close-end-requires-clause-inboxes
close-end-requires-clause-inboxes g c =
    let run = c.in-Ok-run_in_threads.ensures.run in
    few-reports run.ran.inboxes (omega (arith, run.opening.all.inboxes, c.requires.few_inboxes))

pub close-end-requires-clause-clocks : goal.close-end-requires-clause-clocks
close-end-requires-clause-clocks g c =
    let run = c.in-Ok-run_in_threads.ensures.run in
    few-reports run.ran.clocks (few-clocks c.args.serving.now run.opening.all)

pub returns-in-Ok-run_in_threads : goal.returns-in-Ok-run_in_threads
returns-in-Ok-run_in_threads g c = record {
  runs = inr (record {
    proto = c.in-Ok.proto;
    reads = rw c.as_slice-path.ensures at c.in-Ok.ensures.opens;
    files = c.in-Ok.ensures.same;
    serves = inr (record {
      outcome = c.in-Ok-run_in_threads.outcome;
      run = c.in-Ok-run_in_threads.ensures.run;
      ends = c.close-end.ensures;
    });
  });
  unused = refl;
  undialled = refl;
}

pub returns : goal.returns
returns g c =
    let said = c.say.ensures.says in
    rw c.say.ensures.end (record {
      runs = inr (record {
        proto = c.in-Ok.proto;
        reads = rw c.as_slice-path.ensures at c.in-Ok.ensures.opens;
        files = said.unread ∙ c.in-Ok.ensures.same;
        serves = inl (EndsUnserved-said c.in-Err-run_in_threads.ensures.stopped said refl);
      });
      unused = said.unused;
      undialled = said.undialled;
    })
