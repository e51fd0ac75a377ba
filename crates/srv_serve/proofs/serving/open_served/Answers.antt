-- What is opened is what the options ask for.
use Rattle.std.proofs.Common.{◌≡◌, List, [], ◌∷◌, ℕ, length, ap, subst, arith}
use Rattle.std.proofs.lemmas.Result.{err_from_is_err_and}
use Rattle.srv_open.specs.Devices.{asked_by, Wanted}
use Rattle.srv_serve.specs.Telling.{serving_line, TellsLines}
use Rattle.srv_serve.proofs.StageLemmas.{HasOpened-as, HasStopped-as, HasStopped-short}
use Rattle.srv_serve.proofs.serving.open_served.Goals as goal

pub open_all-requires-clause-few : goal.open_all-requires-clause-few
open_all-requires-clause-few g c =
    let same : length c.asked_by-asked.result.inboxes.now ≡ length c.args.serving.now.inboxes =
    ap (λ (w : Wanted). length w.inboxes) c.asked_by-asked.ensures in
    omega (arith, same, c.requires.serving.few_inboxes)

pub returns-in_err-open_all-clause-stopped : goal.returns-in_err-open_all-clause-stopped
returns-in_err-open_all-clause-stopped g c =
    let p = err_from_is_err_and c.from_residual.result c.from_residual.ensures.1 in
    rw (p.1, p.2) (HasStopped-as c.asked_by-asked.ensures c.open_all.ensures.opens c.in_err-open_all.ensures.stops)

pub returns-in_err-tell_serving-clause-stopped : goal.returns-in_err-tell_serving-clause-stopped
returns-in_err-tell_serving-clause-stopped g c =
    let failed = c.from_residual-in_err-tell_serving in
    let p = err_from_is_err_and failed.result failed.ensures.1 in
    rw (p.1, p.2) (HasStopped-short c.asked_by-asked.ensures c.open_all.ensures.opens
    c.in_ok-open_all.ensures.all c.in_err-tell_serving.ensures.err)

pub returns-clause-opens : goal.returns-clause-opens
returns-clause-opens g c =
    let opener = g.M.Machine.shown c.open_all.new.opener in
    let opener' = g.M.Machine.shown c.tell_serving.new.opener in
    let told = subst (λ (w : Wanted). TellsLines (serving_line c.as_slice.result.now w ∷ []) opener opener')
    c.asked_by-asked.ensures c.in_ok-tell_serving.ensures.ok in
    let named = subst (λ (n : List ℕ). TellsLines (serving_line n (asked_by c.args.serving.now) ∷ []) opener opener')
    c.as_slice.ensures told in
    HasOpened-as c.asked_by-asked.ensures c.open_all.ensures.opens c.in_ok-open_all.ensures.all named
