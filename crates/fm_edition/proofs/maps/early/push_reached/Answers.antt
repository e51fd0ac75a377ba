-- The run that was reached is the best where it keeps the least offset and has the valid time.
use Rattle.std.proofs.Common.{◌≡◌, ◌++◌, List, OnOk, rules, subst, sym, ◌∙◌, SFits, w64}
use Rattle.std.specs.Option.{option_to_list}
use Rattle.std.proofs.lemmas.Int.{to_z-of_z}
use Rattle.fm_model.specs.declared.loaded.Loaded.{Loaded}
use Rattle.fm_model.specs.Rows.{best_row}
use Rattle.fm_edition.specs.Indexes.{found_in, IsTimed}
use Rattle.fm_edition.proofs.LatestLemmas.{row-latest, sound-latest}
use Rattle.fm_edition.proofs.maps.early.push_reached.Goals as goal

pub cell-requires : goal.cell-requires
cell-requires c = sound-latest c.requires.leads.held c.args.latest.now c.requires.leads.is

pub push_best-requires : goal.push_best-requires
push_best-requires c =
    let a : SFits w64 c.args.valid = search rules in
    simp to_z-of_z (subst (λ (files : List Loaded). IsTimed (c.args.valid, files))
    (sym (simp to_z-of_z at c.files.ensures)) c.requires.timed)

pub returns-clause-made : goal.returns-clause-made
returns-clause-made c =
    let a : SFits w64 c.args.valid = search rules in
    let made = simp to_z-of_z at c.push_best.ensures in
    subst (λ (files : List Loaded). OnOk c.push_best.result (c.push_best.new.rows ≡ c.args.rows.now
    ++ option_to_list (best_row files c.args.least c.args.valid))) (simp to_z-of_z at c.files.ensures) made

pub returns-in-Some-clause-made : goal.returns-in-Some-clause-made
returns-in-Some-clause-made c =
    let a : SFits w64 c.args.valid = search rules in
    let b : SFits w64 c.args.latest.now.run = search rules in
    let keeps = sym (simp to_z-of_z at c.keeps_least_offset.ensures) ∙ c.if-keeps_least_offset.true in
    let there = simp to_z-of_z at c.in-Some.ensures.found in
    let row = row-latest c.args.latest.now c.args.least (c.args.valid, found_in c.args.page.now c.args.valid)
    (c.in-Some.file.now, c.in-Some.index) c.requires.leads c.requires.stops keeps there in
    let pushed = simp to_z-of_z at c.push.ensures.ok in
    rw (row, ← c.in_ok-share.ensures) pushed
