-- The part at the index is the last that begins at or before the offset, or all begin after it.
use Rattle.std.proofs.Common.{◌-◌, get_or, inl, inr, refl, arith}
use Rattle.std.proofs.lemmas.Option.{slice_get-get_or}
use Rattle.dap_plan.proofs.LaidLemmas.{begun-part, last-begun}
use Rattle.dap_plan.proofs.laid.part_at.Goals as goal

pub returns-then-begun-eq0-clause-stands : goal.returns-then-begun-eq0-clause-stands
returns-then-begun-eq0-clause-stands c = inl (refl, refl)

pub returns-then-begun-eq0-clause-last : goal.returns-then-begun-eq0-clause-last
returns-then-begun-eq0-clause-last c =
    last-begun c.args.begins.now c.args.from c.begun_at-begun.result 0 c.begun_at-begun.ensures.begun
    (omega (arith, c.if-begun-eq0.true))

pub behind-left-requires : goal.behind-left-requires
behind-left-requires c =
    begun-part c.args.begins.now c.args.from c.begun_at-begun.result _ c.begun_at-begun.ensures.begun
    (omega (arith, c.if-begun-eq0.false))

pub returns-clause-stands : goal.returns-clause-stands
returns-clause-stands c = inr (
  get_or c.args.begins.now (c.begun_at-begun.result - 1) 0,
  slice_get-get_or c.args.begins.now (c.begun_at-begun.result - 1) 0
      (omega (arith, c.begun_at-begun.ensures.bound, c.if-begun-eq0.false)),
  c.behind-left.ensures,
)

pub returns-clause-last : goal.returns-clause-last
returns-clause-last c =
    last-begun c.args.begins.now c.args.from c.begun_at-begun.result _ c.begun_at-begun.ensures.begun
    (omega (arith, c.if-begun-eq0.false))
