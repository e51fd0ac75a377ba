-- What an operation takes out of the pieces, and of the last files.
use Rattle.std.proofs.Common.{◌≡◌, ◌++◌, List, ap, ap₂, refl, sym, ◌∙◌}
use Rattle.fm_model.specs.declared.loaded.Loaded.{Loaded}
use Rattle.fm_list.specs.Change.{gone}
use Rattle.fm_edition.specs.Pieces.{joined}
use Rattle.fm_edition.proofs.PieceLemmas.{gone-append}
use Rattle.fm_edition.proofs.maps.files.Files.gone.Goals as goal

pub returns : goal.returns
returns c =
    let op = c.args.op.now in
    let first : c.in_ok-gone.gone ≡ gone (joined c.self.inside.pieces.now) op = c.in_ok-gone.ensures in
    c.in_ok-push_gone.ensures.ok
    ∙ ap₂ (λ (a b : List Loaded). a ++ b) first refl
    ∙ sym (gone-append (joined c.self.inside.pieces.now) c.self.inside.last.now op) ∙ ap (λ l. gone l op) c.self.view_is
