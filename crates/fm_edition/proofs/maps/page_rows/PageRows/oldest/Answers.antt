-- What is kept of the page says it.
use Rattle.std.proofs.Common.{ap, ◌∙◌}
use Rattle.fm_edition.specs.Kept.{KeptRows}
use Rattle.fm_edition.proofs.maps.page_rows.PageRows.oldest.Goals as goal

pub returns : goal.returns
returns c = c.as_slice.ensures ∙ ap (λ (kept : KeptRows). kept.oldest) c.self.view_is
