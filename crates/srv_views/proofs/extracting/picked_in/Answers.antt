-- The look leaves the operations, and answers by them.
use Rattle.std.proofs.Common.{Err, refl, sym, ap, ◌∙◌}
use Rattle.fm_base.specs.Chain.{fault_as}
use Rattle.dap_reply.specs.Fault.{fault_code}
use Rattle.srv_views.proofs.ExtractLemmas.{extract-asked}
use Rattle.srv_views.proofs.extracting.picked_in.Goals as goal

pub returns-in-Ok : goal.returns-in-Ok
returns-in-Ok c =
    let found = c.in_ok-answer.ensures in
    extract-asked c.args.ask.now c.args.plain.now c.ask.new.self c.in_ok-answer.answer found.same_proto
    (found.stays refl) found.answer
    ∙ ap (λ r. fault_as fault_code r) c.in-Ok.is

pub returns-in-Err : goal.returns-in-Err
returns-in-Err c =
    let found = c.in_ok-answer.ensures in
    extract-asked c.args.ask.now c.args.plain.now c.ask.new.self c.in_ok-answer.answer found.same_proto
    (found.stays refl) found.answer
    ∙ ap (λ r. fault_as fault_code r) c.in-Err.is ∙ ap Err (sym c.code.ensures)
