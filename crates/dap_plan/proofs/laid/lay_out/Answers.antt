-- One more part is laid behind those before it.
use Rattle.std.proofs.Common.{◌≡◌, ◌∙◌, Some, slice_get, length, ap, sym, subst, arith}
use Rattle.std.proofs.lemmas.List.{length_push}
use Rattle.std.proofs.lemmas.List.Elements.{All-nil}
use Rattle.std.proofs.lemmas.Option.{slice_get-get_or}
use Rattle.dap_xdr.specs.Datasets.{content_of}
use Rattle.dap_plan.specs.Laid.{AreBegins, AreMarked, IsMarkedAt}
use Rattle.dap_plan.proofs.DataLemmas.{data-longer, data-none, data-whole}
use Rattle.dap_plan.proofs.LaidLemmas.{begins-more, begins-none, marks-kept}
use Rattle.dap_plan.proofs.laid.lay_out.Goals as goal

pub loop-part-init : goal.loop-part-init
loop-part-init c =
    let shown = c.args.source.now in
    let sent = c.args.sent.now in
    record {
      len_is = sym (data-none (content_of shown) sent);
      few = omega arith;
      within = omega arith;
      count = ap length c.in_ok-items.ensures.items;
      begins_are = subst (AreBegins shown sent) (sym c.in_ok-items.ensures.items) (begins-none shown sent);
      marks_are = subst (AreMarked shown sent) (sym c.new-marks.ensures) (All-nil (IsMarkedAt shown sent));
    }

pub overflow_add-len : goal.overflow_add-len
overflow_add-len c =
    omega (arith, c.loop-part.invariant.few, c.in_ok-marked.ensures.small, c.requires.few, c.loop-part-test.true)

pub loop-part-preserved : goal.loop-part-preserved
loop-part-preserved c =
    let shown = c.args.source.now in
    let sent = c.args.sent.now in
    let so = c.loop-part.invariant in
    let part = c.part-item.result in
    let more = data-longer (content_of shown) sent c.loop-part.part-index c.in_ok-marked.marked.len part
    c.loop-part-test.true c.part-item.is c.in_ok-marked.ensures.len in
    let index : c.len-index.result ≡ c.loop-part.part-index = omega (arith, c.len-index.ensures, so.count) in
    let at : slice_get sent c.len-index.result ≡ Some part =
    ap (slice_get sent) index ∙ slice_get-get_or sent c.loop-part.part-index part c.loop-part-test.true
    ∙ ap Some (sym c.part-item.is) in
    record {
      len_is = omega (arith, so.len_is, more);
      few = omega (arith, so.few, c.in_ok-marked.ensures.small);
      within = omega (arith, c.loop-part-test.true);
      count = ap length c.in_ok-push.ensures.ok ∙ length_push c.loop-part.begins _ ∙ omega (arith, so.count);
      begins_are = subst (AreBegins shown sent) (sym c.in_ok-push.ensures.ok)
          (begins-more shown sent c.loop-part.begins c.loop-part.part-index c.short-begin.result so.begins_are so.count
          (λ fits. c.short-begin.ensures (omega (arith, so.len_is, fits)) ∙ so.len_is));
      marks_are = marks-kept shown sent c.loop-part.marks c.keep_marks.new.marks c.len-index.result
          c.in_ok-marked.marked.marks part so.marks_are c.in_ok-keep_marks.ensures at c.in_ok-marked.ensures.marks;
    }

pub returns-clause-exact : goal.returns-clause-exact
returns-clause-exact c =
    c.loop-part.invariant.len_is
    ∙ ap length (data-whole (content_of c.args.source.now) c.args.sent.now c.loop-part.part-index
    c.loop-part-test.false)

pub returns-clause-small : goal.returns-clause-small
returns-clause-small c =
    omega (arith, c.loop-part.invariant.few, c.loop-part.invariant.within, c.requires.few)

pub returns-clause-laid : goal.returns-clause-laid
returns-clause-laid c =
    let so = c.loop-part.invariant in
    record {
      count = omega (arith, so.within, so.count, c.loop-part-test.false);
      begins_are = so.begins_are;
      marks_are = so.marks_are;
    }
