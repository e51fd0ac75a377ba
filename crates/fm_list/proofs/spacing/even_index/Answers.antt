-- A valid time stands at the number of whole steps that it lies behind the first. Where it lies no whole number of them
-- behind it, or too many, it is none of the times.
use Rattle.std.proofs.Common.{◌≡◌, ◌*◌, ◌/◌, ◌%◌, pos, ◌+ℤ◌, ◌-ℤ◌, ap, ◌∙◌, rules, arith, SFits, w64}
use Rattle.std.specs.Prelude.{unsigned_abs}
use Rattle.std.proofs.lemmas.Int.{to_z-of_z}
use Rattle.fm_list.proofs.SpacingLemmas.{stands_at, whole_steps}
use Rattle.fm_list.proofs.spacing.even_index.Goals as goal
use Rattle.fm_list.proofs.spacing.even_index.Goals.{then-far-step-ne0-via-then-far-step-ne0, then-far-step-ne0-via-else-far-step-ne0+then-index-from}

pub returns-then-far-step-ne0-clause-none : goal.returns-then-far-step-ne0-clause-none
returns-then-far-step-ne0-clause-none c = λ none index within is.
    let a : SFits w64 c.args.valid = search rules in
    let b : SFits w64 c.args.first = search rules in
    let far : c.abs_diff-far.result ≡ unsigned_abs (c.args.valid -ℤ c.args.first) =
    simp to_z-of_z at c.abs_diff-far.ensures in
    let whole = whole_steps c.args.first c.args.valid c.args.step index c.requires is in
    let rest : c.abs_diff-far.result % c.from-step.result ≡ 0 = cc (whole.0, far, c.from-step.ensures) in
    let at : c.abs_diff-far.result / c.from-step.result ≡ index = cc (whole.1, far, c.from-step.ensures) in
    elim c.then-far-step-ne0.branch [
      | then-far-step-ne0-via-then-far-step-ne0 w ↦ w.if-far-step-ne0.true rest
      | then-far-step-ne0-via-else-far-step-ne0+then-index-from w ↦
          omega (arith, at, within, w.if-index-from.true, w.from.ensures)
    ]

pub returns-clause-found : goal.returns-clause-found
returns-clause-found c =
    let a : SFits w64 c.args.valid = search rules in
    let b : SFits w64 c.args.first = search rules in
    let step : c.from-step.result ≡ c.args.step = c.from-step.ensures in
    let stands = stands_at c.args.first c.args.valid c.from-step.result c.abs_diff-far.result
    (simp to_z-of_z at c.if-valid-first.false) (simp to_z-of_z at c.abs_diff-far.ensures) c.if-far-step-ne0.false in (
      omega (arith, c.if-index-from.false, c.from.ensures),
      stands ∙ ap (λ s. c.args.first +ℤ pos (c.abs_diff-far.result / c.from-step.result * s)) step,
    )
