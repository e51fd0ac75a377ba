-- The end of a run of `many` that has its prototypes.
use Rattle.std.proofs.Common.{◌∙◌, inl, inr, length, refl, arith}
use Rattle.std.proofs.lemmas.List.{length-map}
use Rattle.srv_words.specs.declared.job.Spec.{Spec}
use Rattle.srv_serve.proofs.ManyLemmas.{closed-count, each-told, few-clocks, few-told}
use Rattle.srv_serve.proofs.StageLemmas.{EndsUnserved-said}
use Rattle.srv_serve.proofs.several.serve_with.Goals as goal

pub close_many-end-requires-clause-doors : goal.close_many-end-requires-clause-doors
close_many-end-requires-clause-doors g c =
    let run = c.in-Ok.ensures.run in
    few-told run.ran.doors (omega (arith, run.opening.all.doors, c.requires.serving.few_workers))

pub close_many-end-requires-clause-inboxes : goal.close_many-end-requires-clause-inboxes
close_many-end-requires-clause-inboxes g c =
    let run = c.in-Ok.ensures.run in
    let each = length-map c.args.serving.now.specs (λ (spec : Spec). spec.inbox) in
    omega (arith, each-told run.ran.inboxes, run.opening.all.inboxes, each, c.requires.serving.few_specs)

pub close_many-end-requires-clause-clocks : goal.close_many-end-requires-clause-clocks
close_many-end-requires-clause-clocks g c =
    let run = c.in-Ok.ensures.run in
    let few = few-clocks (length c.args.serving.now.specs) c.args.serving.now.keep in
    omega (arith, each-told run.ran.clocks, run.opening.all.clocks, few, c.requires.serving.few_specs)

pub close_many-end-requires-clause-each : goal.close_many-end-requires-clause-each
close_many-end-requires-clause-each g c =
    let run = c.in-Ok.ensures.run in
    rw c.as_slice.ensures (each-told run.ran.inboxes ∙ run.opening.all.inboxes
    ∙ length-map c.args.serving.now.specs (λ (spec : Spec). spec.inbox))

pub close_many-end-requires-clause-desks : goal.close_many-end-requires-clause-desks
close_many-end-requires-clause-desks g c =
    let ran = c.in-Ok.ensures.run.ran in
    rw c.as_slice.ensures (closed-count c.args.protos.now ran.log _ ran.closed ∙ c.requires.count)

pub returns-in-Ok-clause-serves : goal.returns-in-Ok-clause-serves
returns-in-Ok-clause-serves g c = inr (record {
  outcomes = c.in-Ok.outcomes;
  run = c.in-Ok.ensures.run;
  ends = rw c.as_slice.ensures at c.close_many-end.ensures;
})

pub returns-in-Err-clause-serves : goal.returns-in-Err-clause-serves
returns-in-Err-clause-serves g c =
    rw c.say.ensures.end (inl (EndsUnserved-said c.in-Err.ensures.stopped c.say.ensures.says refl))
