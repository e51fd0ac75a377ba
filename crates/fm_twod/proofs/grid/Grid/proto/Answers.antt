-- The declarations that are kept are those of the view.
use Rattle.std.proofs.Common.{subst}
use Rattle.fm_twod.specs.Laid.{decls_in, IsGrid, Laid}
use Rattle.fm_twod.proofs.grid.Grid.proto.Goals as goal

pub returns-clause-keeps : goal.returns-clause-keeps
returns-clause-keeps c =
    subst (λ (l : Laid). IsGrid l (decls_in l)) c.self.view_is
    (subst (IsGrid _) c.self.invariant.decls_are c.self.invariant)
