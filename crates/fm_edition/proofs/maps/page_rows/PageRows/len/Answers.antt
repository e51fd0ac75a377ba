-- The rows are those of the page.
use Rattle.std.proofs.Common.{length, ap, ◌∙◌}
use Rattle.fm_edition.specs.Kept.{KeptRows}
use Rattle.fm_edition.proofs.maps.page_rows.PageRows.len.Goals as goal

pub returns : goal.returns
returns c = c.len.ensures ∙ ap length c.get.ensures ∙ ap (λ (kept : KeptRows). length kept.rows) c.self.view_is
