-- The declarations that are kept are those of the view.
use Rattle.std.proofs.Common.{ap, ◌∙◌}
use Rattle.fm_twod.specs.Laid.{decls_in}
use Rattle.fm_twod.proofs.grid.Grid.decls.Goals as goal

pub returns : goal.returns
returns c = c.as_slice.ensures ∙ c.self.invariant.decls_are ∙ ap decls_in c.self.view_is
