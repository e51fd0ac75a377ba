-- What is lent is left of the values that stand together.
use Rattle.std.proofs.Common.{◌≡◌, ◌<◌, ◌%◌, ◌/◌, ℕ, List, take, drop, length, min, sym, ap, subst, ◌∙◌}
use Rattle.dap_xdr.specs.Datasets.{content_of, IsStretchOf}
use Rattle.nc_writer.specs.Data.{data_bytes}
use Rattle.nc_writer.proofs.LendingLemmas.{data-front}
use Rattle.nc_writer.proofs.SentLemmas.{sent-fits}
use Rattle.nc_writer.proofs.TurnLemmas.{together}
use Rattle.nc_writer.proofs.ValueLemmas.{value-some}
use Rattle.nc_writer.proofs.lending.lent_values.Goals as goal

pub nonzero_div-from : goal.nonzero_div-from
nonzero_div-from c =
    subst (λ (n : ℕ). 0 < n) (sym c.value_len-width.ensures)
    (value-some c.args.source.now c.args.variable.now c.requires)

pub nonzero_rem-from : goal.nonzero_rem-from
nonzero_rem-from c =
    subst (λ (n : ℕ). 0 < n) (sym c.value_len-width.ensures)
    (value-some c.args.source.now c.args.variable.now c.requires)

pub stretch-numbers-requires : goal.stretch-numbers-requires
stretch-numbers-requires c = sent-fits c.args.source.now c.args.variable.now c.requires

pub returns : goal.returns
returns c =
    let variable = c.args.variable.now in
    let numbers = c.stretch-numbers.result.now in
    let content = content_of c.args.source.now in
    subst (λ (l : List ℕ). take (length l) (drop c.args.from (data_bytes content variable)) ≡ l)
    (sym c.split_at.ensures.back)
    (data-front content variable c.args.from c.min-passed.result numbers
    (together c.args.source.now variable _ numbers c.requires
    (subst (λ (n : ℕ). IsStretchOf c.args.source.now variable.sent (c.args.from / n) numbers)
    c.value_len-width.ensures c.stretch-numbers.ensures))
    (c.min-passed.ensures
    ∙ ap (λ (n : ℕ). min (c.args.from % n) (length numbers)) c.value_len-width.ensures))
