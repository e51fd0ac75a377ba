-- What is lent is left of the numbers that stand together.
use Rattle.std.proofs.Common.{◌≡◌, ◌≢◌, ◌<◌, ◌%◌, ◌/◌, ℕ, List, take, drop, length, min, sym, ap, subst, ◌∙◌}
use Rattle.dap_model.specs.Xdr.{element_len}
use Rattle.dap_model.specs.declared.declaration.DapKind.{DapKind}
use Rattle.dap_model.specs.declared.declaration.DapKind.TheVariants.{Text}
use Rattle.dap_xdr.specs.Portion.{numbers_from}
use Rattle.dap_xdr.proofs.LendingLemmas.{stored-front}
use Rattle.dap_xdr.proofs.SoFarLemmas.{element_len-pos}
use Rattle.dap_xdr.proofs.lending.lent_numbers.Goals as goal

pub nonzero_div-element : goal.nonzero_div-element
nonzero_div-element c =
    subst (λ (m : ℕ). 0 < m) (sym c.element_len-width.ensures) (element_len-pos c.kind.result
    (subst (λ (kind : DapKind). kind ≢ Text) (sym c.kind.ensures) c.requires.number))

pub nonzero_rem-from : goal.nonzero_rem-from
nonzero_rem-from c =
    subst (λ (m : ℕ). 0 < m) (sym c.element_len-width.ensures) (element_len-pos c.kind.result
    (subst (λ (kind : DapKind). kind ≢ Text) (sym c.kind.ensures) c.requires.number))

pub returns : goal.returns
returns c =
    let width = c.element_len-width.ensures ∙ ap element_len c.kind.ensures in
    subst (λ (l : List ℕ). take (length l) (drop c.args.from (numbers_from c.args.part.now 0)) ≡ l)
    (sym c.split_at.ensures.back)
    (stored-front c.args.part.now c.args.from (c.args.from / c.element_len-width.result) _ c.min-skip.result
    c.raw-stored.result.now c.requires.same (ap (λ (m : ℕ). c.args.from / m) width) c.raw-stored.ensures
    (c.min-skip.ensures ∙ ap (λ (m : ℕ). min (c.args.from % m) (length c.raw-stored.result.now)) width))
