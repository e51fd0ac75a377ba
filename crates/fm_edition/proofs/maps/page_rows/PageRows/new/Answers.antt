-- The least offset is that of the rows, and the ends are those of the valid times.
use Rattle.std.proofs.Common.{rules, ap, List, subst, sym, ◌∙◌, SFits}
use Rattle.std.specs.Int.{w128}
use Rattle.std.proofs.lemmas.Int.{to_z-of_z}
use Rattle.fm_model.specs.declared.row.Row.{Row}
use Rattle.fm_edition.specs.declared.maps.page_rows.Oldest.{Oldest}
use Rattle.fm_edition.specs.Kept.{KeptRows}
use Rattle.fm_edition.specs.Least.{LieAfter}
use Rattle.fm_edition.specs.Stretches.{AreEnds}
use Rattle.fm_edition.proofs.maps.page_rows.PageRows.new.Goals as goal

pub invariant_of-result : goal.invariant_of-result
invariant_of-result c =
    let a : SFits w128 c.least_of-least.result = search rules in (
      simp to_z-of_z (subst (LieAfter c.least_of-least.result) (c.as_slice.ensures ∙ sym c.in_ok-new.ensures)
          c.least_of-least.ensures),
      subst (λ (times : List Oldest). AreEnds times c.in_ok-ends.ends) c.as_slice-2.ensures c.in_ok-ends.ensures,
    )

pub returns : goal.returns
returns c =
    let kept : List Row → KeptRows = λ rows. record {
      rows = rows;
      oldest = c.args.oldest;
      alone = c.args.alone;
    } in
    ap kept c.in_ok-new.ensures
