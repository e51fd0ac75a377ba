-- The workers ran over all that was opened, or memory ran out for them.
use Rattle.std.proofs.Common.{◌∙◌, inr, length, sym, arith}
use Rattle.std.proofs.lemmas.List.{length-map}
use Rattle.std.proofs.lemmas.Result.{err_from_is_err_and}
use Rattle.srv_words.specs.declared.job.Spec.{Spec}
use Rattle.srv_serve.proofs.ManyLemmas.{none-or-each}
use Rattle.srv_serve.proofs.several.run_in_threads.Goals as goal

pub run_several-requires-clause-protos : goal.run_several-requires-clause-protos
run_several-requires-clause-protos g c _ _ = (
  omega (arith, c.requires.count, c.requires.serving.some_specs),
  omega (arith, c.requires.count, c.requires.serving.few_specs),
  c.requires.protos,
)

pub run_several-requires-clause-doors : goal.run_several-requires-clause-doors
run_several-requires-clause-doors g c _ _ =
    let all = c.in_ok-open_each.ensures.opens.all in
    let serving = c.requires.serving in
    (omega (arith, all.doors, serving.some_workers), omega (arith, all.doors, serving.few_workers))

pub run_several-requires-clause-inboxes : goal.run_several-requires-clause-inboxes
run_several-requires-clause-inboxes g c _ _ =
    c.in_ok-open_each.ensures.opens.all.inboxes ∙ length-map c.args.serving.now.specs (λ (spec : Spec). spec.inbox)
    ∙ sym c.requires.count

pub run_several-requires-clause-clocks : goal.run_several-requires-clause-clocks
run_several-requires-clause-clocks g c _ _ =
    none-or-each (length c.args.serving.now.specs) (length c.args.protos.now) (length c.open_each.new.devices.clocks)
    c.args.serving.now.keep c.in_ok-open_each.ensures.opens.all.clocks c.requires.count

pub returns-in_err-open_each-clause-stopped : goal.returns-in_err-open_each-clause-stopped
returns-in_err-open_each-clause-stopped g c =
    let p = err_from_is_err_and c.from_residual.result c.from_residual.ensures.1 in
    rw (p.1, p.2) c.in_err-open_each.ensures.stopped

pub returns-in_err-outcomes-clause-stopped : goal.returns-in_err-outcomes-clause-stopped
returns-in_err-outcomes-clause-stopped g c =
    let failed = c.from_residual-in_err-outcomes in
    let p = err_from_is_err_and failed.result failed.ensures.1 in
    let opened = c.in_ok-open_each.ensures.opens in
    rw (p.1, p.2, c.in_err-outcomes.ensures.none) (record {
      opened = opened.opened;
      told = inr opened.told;
      opens = opened.opens;
      stops = opened.all.calm;
    })

pub returns-clause-run : goal.returns-clause-run
returns-clause-run g c = record {
  devices = c.open_each.new.devices;
  opening = c.in_ok-open_each.ensures.opens;
  ran = rw c.kept-keep.ensures at c.in_ok-outcomes.ensures.ran;
}
