-- A file of the name is one of the pieces, or one of the last.
use Rattle.std.proofs.Common.{Bool, ap, sym, ◌∙◌}
use Rattle.std.specs.Prelude.{◌||◌}
use Rattle.fm_model.specs.Collection.{holds}
use Rattle.fm_edition.proofs.NameLemmas.{holds-files}
use Rattle.fm_edition.proofs.maps.files.Files.has_name.Goals as goal

pub returns-then-has_name_in : goal.returns-then-has_name_in
returns-then-has_name_in c =
    let pieces = c.self.inside.pieces.now in
    let last = c.self.inside.last.now in
    let name = c.args.name.now in
    c.if-has_name_in.true ∙ ap (λ (b : Bool). b || holds last name) (sym c.if-has_name_in.true ∙ c.has_name_in.ensures)
    ∙ holds-files pieces last name ∙ ap (λ l. holds l name) c.self.view_is

pub returns-else-has_name_in : goal.returns-else-has_name_in
returns-else-has_name_in c =
    let pieces = c.self.inside.pieces.now in
    let last = c.self.inside.last.now in
    let name = c.args.name.now in
    c.has_name.ensures ∙ ap (λ (b : Bool). b || holds last name) (sym c.if-has_name_in.false ∙ c.has_name_in.ensures)
    ∙ holds-files pieces last name ∙ ap (λ l. holds l name) c.self.view_is
