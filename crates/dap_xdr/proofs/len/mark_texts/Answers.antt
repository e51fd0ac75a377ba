-- Each turn marks a text and counts those up to the next that is marked.
use Rattle.std.proofs.Common.{◌∙◌, length, refl, sym, ap, subst, arith}
use Rattle.dap_xdr.specs.Marks.{spacing, AreMarks}
use Rattle.dap_xdr.proofs.MarkLemmas.{before-first, marks-noted, no-marks}
use Rattle.dap_xdr.proofs.TextsLemmas.{texts-whole}
use Rattle.dap_xdr.proofs.len.mark_texts.Goals as goal

pub loop-element-init : goal.loop-element-init
loop-element-init c = (
  refl,
  sym (before-first c.args.part.now),
  subst (AreMarks c.args.part.now) (sym c.new-marks.ensures) (no-marks c.args.part.now),
  omega arith,
  omega arith,
)

pub loop-element-preserved : goal.loop-element-preserved
loop-element-preserved c =
    let n = c.args.part.now in
    let so = c.loop-element.invariant in (
      c.texts_len-len.ensures.index ∙ so.0,
      omega (arith, so.1, c.texts_len-len.ensures.len),
      marks-noted n c.loop-element.marks c.spacing-every.result c.loop-element.element c.loop-element.len
          c.mark.new.marks so.2 (c.spacing-every.ensures.value ∙ ap spacing c.count-count.ensures)
          (record { within = so.3; offset_is = so.1 }) c.in_ok-mark.ensures,
      omega (arith, c.loop-element-test.true, c.count-count.ensures),
      omega (arith, so.4, c.texts_len-len.ensures.few),
    )

pub returns-clause-exact : goal.returns-clause-exact
returns-clause-exact c =
    let so = c.loop-element.invariant in
    record {
      len_is = so.1 ∙ ap length (texts-whole c.args.part.now c.loop-element.element
          (omega (arith, c.count-count.ensures, c.loop-element-test.false)));
      marks_are = so.2;
    }

pub returns-clause-small : goal.returns-clause-small
returns-clause-small c =
    let so = c.loop-element.invariant in
    omega (arith, so.3, so.4, c.count-count.ensures)
