-- The files that have the valid time have its cells.
use Rattle.std.proofs.Common.{◌≡◌, rules, ap, ◌∙◌, SFits, w64}
use Rattle.std.proofs.lemmas.Int.{to_z-of_z}
use Rattle.fm_model.specs.Cell.{cell}
use Rattle.fm_list.specs.declared.by.By.TheVariants.{Time}
use Rattle.fm_list.specs.Selected.{part}
use Rattle.fm_edition.proofs.EditionLemmas.{times_are_sound}
use Rattle.fm_edition.proofs.PartLemmas.{cell-part, sound-part, part_at}
use Rattle.fm_edition.proofs.maps.Edition.cell.Goals as goal

pub cell_of-requires : goal.cell_of-requires
cell_of-requires c =
    let a : SFits w64 c.args.valid = search rules in
    let found = simp to_z-of_z at c.files_at.ensures in
    let at = part_at Time c.self.inside.files c.self.inside.index.by_time c.args.valid c.self.invariant.maps.of_times in
    let is : c.files_at.result ≡ part Time c.self.inside.files c.args.valid = found ∙ at in
    rw is (sound-part Time c.self.inside.files c.args.valid
    (times_are_sound c.self.inside.proto c.self.inside.files c.self.invariant.sound.fit))

pub returns-clause-found : goal.returns-clause-found
returns-clause-found c =
    let a : SFits w64 c.args.valid = search rules in
    let b : SFits w64 c.args.run = search rules in
    let found = simp to_z-of_z at c.files_at.ensures in
    let got = simp to_z-of_z at c.cell_of.ensures.found in
    let at = part_at Time c.self.inside.files c.self.inside.index.by_time c.args.valid c.self.invariant.maps.of_times in
    let same : cell c.files_at.result c.args.run c.args.valid
    ≡ cell c.self.inside.files c.args.run c.args.valid = ap (λ files. cell files c.args.run c.args.valid) (found ∙ at)
    ∙ cell-part c.self.inside.files c.args.run c.args.valid in
    rw (← c.self.view_is, ← same) got

pub returns-clause-none : goal.returns-clause-none
returns-clause-none c =
    let a : SFits w64 c.args.valid = search rules in
    let b : SFits w64 c.args.run = search rules in
    let found = simp to_z-of_z at c.files_at.ensures in
    let got = simp to_z-of_z at c.cell_of.ensures.none in
    let at = part_at Time c.self.inside.files c.self.inside.index.by_time c.args.valid c.self.invariant.maps.of_times in
    let same : cell c.files_at.result c.args.run c.args.valid
    ≡ cell c.self.inside.files c.args.run c.args.valid = ap (λ files. cell files c.args.run c.args.valid) (found ∙ at)
    ∙ cell-part c.self.inside.files c.args.run c.args.valid in
    rw (← c.self.view_is, ← same) got
