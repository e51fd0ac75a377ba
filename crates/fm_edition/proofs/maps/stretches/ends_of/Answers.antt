-- One more end: that of the stretch at hand, or of the next.
use Rattle.std.proofs.Common.{◌+◌, ◌∷◌, [], ap, arith, length, ◌∙◌}
use Rattle.std.proofs.lemmas.List.{length-append}
use Rattle.fm_edition.specs.Stretches.{IsEnd}
use Rattle.fm_edition.proofs.StretchLemmas.{ends_more}
use Rattle.fm_edition.proofs.maps.stretches.ends_of.Goals as goal
use Rattle.fm_edition.proofs.maps.stretches.ends_of.Goals.{then-at-end, else-at-end}

pub loop-at-init : goal.loop-at-init
loop-at-init c =
    let none = ap length c.in_ok-items.ensures.items in
    record {
      each = none;
      order = omega arith;
      within = omega arith;
      rise = λ i k z first order lt. absurd (omega (arith, lt));
      ends = λ i d lt. absurd (omega (arith, lt, none));
    }

pub loop-at-preserved : goal.loop-at-preserved
loop-at-preserved c =
    let so = c.loop-at.invariant in
    let at = c.loop-at.at in
    let stretch : IsEnd c.args.times.now at c.if-at-end.end = elim c.if-at-end.branch [
      | then-at-end w ↦ rw w.end-is w.end_from-end.ensures
      | else-at-end w ↦ rw w.end-is (record {
        some = omega (arith, so.order, w.if-at-end.false);
        within = so.within;
        rise = so.rise;
      })
    ] in
    let pushed = c.in_ok-push.ensures.ok in
    record {
      each = ap length pushed ∙ length-append c.loop-at.ends (c.if-at-end.end ∷ []) ∙ ap (λ n. n + 1) so.each;
      order = omega (arith, stretch.some);
      within = stretch.within;
      rise = λ i k z first order lt. stretch.rise i k z (omega (arith, first)) order lt;
      ends = rw pushed (ends_more c.args.times.now c.loop-at.ends at c.if-at-end.end so.each stretch so.ends);
    }

pub returns : goal.returns
returns c =
    let so = c.loop-at.invariant in
    record {
      each = omega (arith, so.each, c.loop-at-test.false, c.loop-at.auto.at-end);
      are = so.ends;
    }
