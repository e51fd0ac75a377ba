-- The files of the run have its valid times.
use Rattle.std.proofs.Common.{◌≡◌, rules, ap, ◌∙◌, SFits, w64}
use Rattle.std.proofs.lemmas.Int.{to_z-of_z}
use Rattle.fm_model.specs.Cell.{times_of_run}
use Rattle.fm_list.specs.declared.by.By.TheVariants.{Run}
use Rattle.fm_edition.proofs.PartLemmas.{part_at, times_of_run-part}
use Rattle.fm_edition.proofs.maps.Edition.times_of.Goals as goal

pub returns : goal.returns
returns c =
    let a : SFits w64 c.args.run = search rules in
    let found = simp to_z-of_z at c.files_at.ensures in
    let got = simp to_z-of_z at c.times_of.ensures in
    let at = part_at Run c.self.inside.files c.self.inside.index.by_run c.args.run c.self.invariant.maps.of_runs in
    let same : times_of_run c.files_at.result c.args.run ≡ times_of_run c.self.inside.files c.args.run =
    ap (λ files. times_of_run files c.args.run) (found ∙ at) ∙ times_of_run-part c.self.inside.files c.args.run in
    rw (← c.self.view_is, ← same) got
