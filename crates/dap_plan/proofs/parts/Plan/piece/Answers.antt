-- The front is written, and the data behind it.
use Rattle.std.proofs.Common.{◌+◌, ◌-◌, ◌++◌, ℕ, length, min, drop, subst, sym, ap, ◌∙◌}
use Rattle.std.proofs.lemmas.List.{length-drop}
use Rattle.dap_number.specs.Overlay.{IsPut}
use Rattle.dap_plan.specs.Parts.{bytes_of, Parts}
use Rattle.dap_plan.proofs.LaidLemmas.{laid-data}
use Rattle.dap_plan.proofs.PlanLemmas.{data-small, piece-data, piece-ready}
use Rattle.dap_plan.proofs.parts.Plan.piece.Goals as goal

put_ready : (c : goal.In-None) → IsPut (drop c.args.from (bytes_of c.args.self.now)) c.args.out.now c.put-count.new.out
    c.put-count.result
put_ready c =
    subst (λ (parts : Parts). IsPut (drop c.args.from (bytes_of parts)) c.args.out.now c.put-count.new.out
    c.put-count.result) c.self.view_is
    (piece-ready _ c.as_slice.result.now c.args.out.now c.put-count.new.out c.args.from c.put-count.result c.in-None.is
    c.as_slice.ensures c.put-count.ensures.count c.put-count.ensures.bytes)

pub put_data-requires-clause-small : goal.put_data-requires-clause-small
put_data-requires-clause-small c =
    data-small _ c.in-Some.source c.as_slice-in-Some.result.now c.self.inside.len
    c.self.invariant.0 c.in-Some.is c.as_slice-in-Some.ensures

pub put_data-requires-clause-laid : goal.put_data-requires-clause-laid
put_data-requires-clause-laid c =
    laid-data c.self.inside.source c.self.inside.sent c.as_slice-in-Some.result.now c.self.inside.laid
    c.in-Some.source c.self.invariant.1 c.in-Some.is c.as_slice-in-Some.ensures

pub returns-in-None-clause-count : goal.returns-in-None-clause-count
returns-in-None-clause-count c =
    (put_ready c).count_is ∙ ap (min (length c.args.out.now)) (length-drop c.args.from (bytes_of c.args.self.now))

pub returns-in-None-clause-bytes : goal.returns-in-None-clause-bytes
returns-in-None-clause-bytes c = (put_ready c).new_is

pub returns-in-Some : goal.returns-in-Some
returns-in-Some c =
    let all =
    subst (λ (parts : Parts). IsPut (drop c.args.from (bytes_of parts)) c.args.out.now
    (c.split_at_mut-rest.result.0.now ++ c.put_data.new.out) (c.put-count.result + c.put_data.result)) c.self.view_is
    (piece-data _ c.in-Some.source c.as_slice-in-Some.result.now c.as_slice.result.now c.args.out.now
    c.put-count.new.out c.split_at_mut-rest.result.0.now c.split_at_mut-rest.result.1.now c.put_data.new.out c.args.from
    c.put-count.result c.put_data.result c.saturating_sub-from.result c.in-Some.is c.as_slice.ensures
    c.as_slice-in-Some.ensures c.put-count.ensures.count c.put-count.ensures.bytes c.split_at_mut-rest.ensures.value
    c.split_at_mut-rest.ensures.front_len
    (c.saturating_sub-from.ensures
    ∙ ap (λ (n : ℕ). c.args.from - n) (c.len.ensures ∙ ap length (sym c.as_slice.ensures)))
    c.put_data.ensures) in
    record {
      count = all.count_is ∙ ap (min (length c.args.out.now)) (length-drop c.args.from (bytes_of c.args.self.now));
      bytes = all.new_is;
    }
