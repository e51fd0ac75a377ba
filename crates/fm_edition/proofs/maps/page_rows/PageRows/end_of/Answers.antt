-- The end stands beside the valid time.
use Rattle.std.proofs.Common.{ℕ, List, ap, arith, get_or, length, sym}
use Rattle.std.proofs.Math.Path.{subst₂}
use Rattle.fm_edition.specs.declared.maps.page_rows.Oldest.{Oldest}
use Rattle.fm_edition.specs.Kept.{KeptRows}
use Rattle.fm_edition.specs.Stretches.{IsEnd}
use Rattle.fm_edition.proofs.maps.page_rows.PageRows.end_of.Goals as goal

pub returns : goal.returns
returns c =
    let at = c.args.at in
    let ends = c.self.invariant.1 in
    let times = ap (λ (kept : KeptRows). kept.oldest) c.self.view_is in
    subst₂ (λ (times : List Oldest) (ends : List ℕ). IsEnd times at (get_or ends at 0)) times (sym c.as_slice.ensures)
    (ends.are at 0 (omega (arith, ends.each, c.requires, ap length times)))
