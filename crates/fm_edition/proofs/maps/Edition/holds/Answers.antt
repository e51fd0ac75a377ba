-- A held name stands among those of its code.
use Rattle.std.proofs.Common.{ap, ◌∙◌}
use Rattle.fm_model.specs.Collection.{holds}
use Rattle.fm_edition.specs.Held.{Held}
use Rattle.fm_edition.proofs.NameLemmas.{holds-part}
use Rattle.fm_edition.proofs.maps.Edition.holds.Goals as goal

pub returns : goal.returns
returns c =
    let files = c.self.inside.files in
    let name = c.args.name.now in
    c.has_name.ensures
    ∙ ap (λ l. holds l name) (c.files_named.ensures files c.self.invariant.maps.of_names)
    ∙ holds-part files name ∙ ap (λ (h : Held). holds h.files name) c.self.view_is
