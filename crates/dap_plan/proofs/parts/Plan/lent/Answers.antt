-- What is lent is of the front or of the data.
use Rattle.std.proofs.Common.{◌≡◌, length, take, drop, subst, ap, arith}
use Rattle.dap_plan.specs.Parts.{bytes_of, Parts}
use Rattle.dap_plan.proofs.LaidLemmas.{laid-data}
use Rattle.dap_plan.proofs.PlanLemmas.{data-small, lent-data, lent-front}
use Rattle.dap_plan.proofs.parts.Plan.lent.Goals as goal

pub returns-then-from-ready : goal.returns-then-from-ready
returns-then-from-ready c =
    subst (λ (parts : Parts). take (length c.split_at.result.1.now) (drop c.args.from (bytes_of parts))
    ≡ c.split_at.result.1.now) c.self.view_is
    (lent-front _ c.as_slice.result.now c.split_at.result.1.now c.args.from c.as_slice.ensures
    (omega (arith, c.if-from-ready.true, c.len-ready.ensures, ap length c.as_slice.ensures)) c.split_at.ensures.back)

pub lent_data-requires-clause-laid : goal.lent_data-requires-clause-laid
lent_data-requires-clause-laid c =
    laid-data c.self.inside.source c.self.inside.sent c.as_slice-in-Some.result.now c.self.inside.laid
    c.in-Some.source c.self.invariant.1 c.in-Some.is c.as_slice-in-Some.ensures

pub lent_data-requires-clause-small : goal.lent_data-requires-clause-small
lent_data-requires-clause-small c =
    data-small _ c.in-Some.source c.as_slice-in-Some.result.now c.self.inside.len
    c.self.invariant.0 c.in-Some.is c.as_slice-in-Some.ensures

pub returns-in-Some : goal.returns-in-Some
returns-in-Some c =
    subst (λ (parts : Parts). take (length c.lent_data.result.now) (drop c.args.from (bytes_of parts))
    ≡ c.lent_data.result.now) c.self.view_is
    (lent-data _ c.in-Some.source c.as_slice-in-Some.result.now c.lent_data.result.now c.len-ready.result c.args.from
    c.in-Some.is c.len-ready.ensures c.as_slice-in-Some.ensures c.if-from-ready.false c.lent_data.ensures)
