-- The rows are those of the page.
use Rattle.std.proofs.Common.{IfOk, ◌≡◌, subst}
use Rattle.fm_edition.specs.Kept.{KeptRows}
use Rattle.fm_edition.proofs.maps.page_rows.PageRows.share.Goals as goal

pub returns : goal.returns
returns c =
    subst (λ (kept : KeptRows). IfOk c.share.result (λ rows. rows ≡ kept.rows)) c.self.view_is c.share.ensures
