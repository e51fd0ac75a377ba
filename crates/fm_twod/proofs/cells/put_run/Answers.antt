-- The times of a run's rows are instants.
use Rattle.std.proofs.Common.{◌∙◌, rules, sym, subst, All, SFits, w64}
use Rattle.std.proofs.lemmas.Int.{to_z-of_z}
use Rattle.fm_dataset.specs.Kept.{HasInstants}
use Rattle.fm_twod.proofs.CellLemmas.{run-instants}
use Rattle.fm_twod.proofs.cells.put_run.Goals as goal

pub offsets_in-requires : goal.offsets_in-requires
offsets_in-requires c =
    let fits : SFits w64 c.args.run = search rules in
    let made = simp to_z-of_z at c.in_ok-page.ensures in
    subst (All HasInstants) (sym (c.as_slice.ensures ∙ made))
    (run-instants c.args.edition.now c.args.run c.proto-proto.ensures.sound)
