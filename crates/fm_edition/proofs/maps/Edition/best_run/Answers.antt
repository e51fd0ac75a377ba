-- The files that have the valid time have its best run.
use Rattle.std.proofs.Common.{rules, ap, sym, subst, ◌∙◌, SFits, w64}
use Rattle.std.proofs.lemmas.Int.{to_z-of_z}
use Rattle.fm_model.specs.Cell.{best}
use Rattle.fm_list.specs.declared.by.By.TheVariants.{Time}
use Rattle.fm_list.specs.Selected.{HaveTime}
use Rattle.fm_edition.proofs.PartLemmas.{best-part, have-part, part_at}
use Rattle.fm_edition.proofs.maps.Edition.best_run.Goals as goal

pub best-requires : goal.best-requires
best-requires c =
    let a : SFits w64 c.args.valid = search rules in
    let found = simp to_z-of_z at c.files_at.ensures in
    let at = part_at Time c.self.inside.files c.self.inside.index.by_time c.args.valid c.self.invariant.maps.of_times in
    simp to_z-of_z (subst (HaveTime c.args.valid) (sym (found ∙ at)) (have-part c.self.inside.files c.args.valid))

pub returns : goal.returns
returns c =
    let a : SFits w64 c.args.valid = search rules in
    let found = simp to_z-of_z at c.files_at.ensures in
    let got = simp to_z-of_z at c.best.ensures in
    let at = part_at Time c.self.inside.files c.self.inside.index.by_time c.args.valid c.self.invariant.maps.of_times in
    rw (← c.self.view_is)
    (got ∙ ap (λ files. best files c.args.valid c.args.least) (found ∙ at)
    ∙ best-part c.self.inside.files c.args.valid c.args.least)
