-- The files of the code stand in its page.
use Rattle.std.proofs.Common.{rules, ap, ◌∙◌, SFits, w64}
use Rattle.std.proofs.lemmas.Int.{to_z-of_z}
use Rattle.fm_list.specs.declared.by.By.TheVariants.{Name}
use Rattle.fm_list.specs.Selected.{part}
use Rattle.fm_edition.proofs.PartLemmas.{part_at}
use Rattle.fm_edition.proofs.maps.named.files_named.Goals as goal

pub returns : goal.returns
returns c files are =
    let a : SFits w64 c.code_of.result = search rules in
    let found = simp to_z-of_z at c.files_at.ensures in
    found ∙ part_at Name files c.args.by_name.now c.code_of.result are ∙ ap (part Name files) c.code_of.ensures
