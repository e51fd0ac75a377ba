-- The bits of the axis are those of whole seconds, and others are of the variable's kind.
use Rattle.std.proofs.Common.{sym, ap₂, ◌∙◌}
use Rattle.std.specs.Str.{bytes_eq}
use Rattle.fm_twod.proofs.FillLemmas.{absent-axis, absent-fits}
use Rattle.fm_twod.proofs.fill.absent_bits.Goals as goal

pub returns-then-eq-clause-width : goal.returns-then-eq-clause-width
returns-then-eq-clause-width c =
    absent-axis c.args.proto.now c.args.var.now c.default_fill.result
    (ap₂ bytes_eq (sym c.as_slice.ensures) (sym c.as_slice-2.ensures) ∙ sym c.eq.ensures ∙ c.if-eq.true)
    c.default_fill.ensures.width

pub returns-else-eq-clause-width : goal.returns-else-eq-clause-width
returns-else-eq-clause-width c =
    absent-fits c.args.proto.now c.args.var.now c.fill_of.result
    (ap₂ bytes_eq (sym c.as_slice.ensures) (sym c.as_slice-2.ensures) ∙ sym c.eq.ensures ∙ c.if-eq.false) c.requires
    c.fill_of.ensures.width
