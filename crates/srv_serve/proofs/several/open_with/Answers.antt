-- What is opened is what the options ask for, and a line is told for each collection.
use Rattle.std.proofs.Common.{◌≡◌, ◌∙◌, length, ap, arith}
use Rattle.std.proofs.lemmas.List.{length-map}
use Rattle.std.proofs.lemmas.Result.{err_from_is_err_and}
use Rattle.srv_words.specs.declared.job.Spec.{Spec}
use Rattle.srv_open.specs.Devices.{Wanted}
use Rattle.srv_serve.proofs.StageLemmas.{HasOpened-as, HasStopped-as}
use Rattle.srv_serve.proofs.several.open_with.Goals as goal

pub open_all-requires-clause-few : goal.open_all-requires-clause-few
open_all-requires-clause-few g c =
    let same : length c.asked_with-asked.result.inboxes.now ≡ length c.args.serving.now.specs =
    ap (λ (w : Wanted). length w.inboxes) c.asked_with-asked.ensures
    ∙ length-map c.args.serving.now.specs (λ (spec : Spec). spec.inbox) in
    omega (arith, same, c.requires.serving.few_specs)

pub returns-in_err-open_all-clause-stopped : goal.returns-in_err-open_all-clause-stopped
returns-in_err-open_all-clause-stopped g c =
    let p = err_from_is_err_and c.from_residual.result c.from_residual.ensures.1 in
    rw (p.1, p.2) (HasStopped-as c.asked_with-asked.ensures c.open_all.ensures.opens c.in_err-open_all.ensures.stops)

pub returns-clause-opens : goal.returns-clause-opens
returns-clause-opens g c =
    HasOpened-as c.asked_with-asked.ensures c.open_all.ensures.opens c.in_ok-open_all.ensures.all c.tell_each.ensures
