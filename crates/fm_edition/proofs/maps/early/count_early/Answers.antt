-- All valid times of a stretch are counted from the first on that lies that far after its run.
use Rattle.std.proofs.Common.{List, length, refl, subst, sym, ap, ◌∙◌, arith}
use Rattle.std.specs.Prelude.{filter}
use Rattle.std.proofs.lemmas.List.{take_all}
use Rattle.std.proofs.lemmas.List.Filters.{length-filter_more}
use Rattle.fm_edition.specs.declared.maps.page_rows.Oldest.{Oldest}
use Rattle.fm_edition.specs.Least.{lies_after}
use Rattle.fm_edition.specs.Stretches.{IsEnd}
use Rattle.fm_edition.proofs.EarlyLemmas.{no_time}
use Rattle.fm_edition.proofs.StretchLemmas.{counted_all, stretch_keeps}
use Rattle.fm_edition.proofs.maps.early.count_early.Goals as goal

pub loop-at-init : goal.loop-at-init
loop-at-init c = record { few = omega arith; within = omega arith; counted = refl }

pub overflow_add-count : goal.overflow_add-count
overflow_add-count c =
    omega (arith, c.loop-at.invariant.few, c.end_of-end.ensures.some, c.end_of-end.type_inv)

pub loop-at-preserved-then-lies_after : goal.loop-at-preserved-then-lies_after
loop-at-preserved-then-lies_after c =
    let so = c.loop-at.invariant in
    let times = c.oldest-times.result.now in
    let end : IsEnd times c.loop-at.at c.end_of-end.result =
    subst (λ (l : List Oldest). IsEnd l c.loop-at.at c.end_of-end.result) (sym c.oldest-times.ensures)
    c.end_of-end.ensures in
    let all = counted_all (lies_after c.args.least) times c.loop-at.at c.end_of-end.result no_time
    (omega (arith, end.some)) end.within (stretch_keeps c.args.least times c.loop-at.at c.end_of-end.result no_time end
    (sym c.lies_after.ensures ∙ c.if-lies_after.true)) in
    record {
      few = omega (arith, so.few, end.some);
      within = end.within;
      counted = omega (arith, so.counted, all, end.some);
    }

pub loop-at-preserved : goal.loop-at-preserved
loop-at-preserved c =
    let so = c.loop-at.invariant in
    let more = rw (sym c.lies_after.ensures ∙ c.if-lies_after.false) at (length-filter_more (lies_after c.args.least)
    c.oldest-times.result.now c.loop-at.at no_time c.loop-at-test.true) in
    record {
      few = omega (arith, so.few);
      within = omega (arith, c.loop-at-test.true);
      counted = omega (arith, so.counted, more);
    }

pub returns : goal.returns
returns c =
    c.loop-at.invariant.counted
    ∙ ap (λ l. length (filter (lies_after c.args.least) l))
    (take_all c.loop-at.at c.oldest-times.result.now c.loop-at-test.false ∙ c.oldest-times.ensures)
