-- What is found among the last files, or else in the pieces.
use Rattle.std.proofs.Common.{◌≡◌, ◌++◌, List, refl, rules, ap, sym, ◌∙◌, SFits, w64}
use Rattle.std.proofs.lemmas.Int.{to_z-of_z}
use Rattle.fm_model.specs.declared.loaded.Loaded.{Loaded}
use Rattle.fm_model.specs.Cell.{cell}
use Rattle.fm_list.specs.Selected.{AreSound, HasSoundTimes}
use Rattle.fm_edition.specs.Pieces.{joined}
use Rattle.fm_edition.proofs.FoundLemmas.{found_behind, passed_behind, FindsLast-cell}
use Rattle.fm_edition.proofs.PieceLemmas.{all_first, all_last}
use Rattle.fm_edition.proofs.maps.files.Files.cell_near.Goals as goal

pub cell_of-requires : goal.cell_of-requires
cell_of-requires c =
    let sound : AreSound (joined c.self.inside.pieces.now ++ c.self.inside.last.now) = rw c.self.view_is c.requires in
    all_last HasSoundTimes (joined c.self.inside.pieces.now) c.self.inside.last.now sound

pub cell_in-requires : goal.cell_in-requires
cell_in-requires c =
    let sound : AreSound (joined c.self.inside.pieces.now ++ c.self.inside.last.now) = rw c.self.view_is c.requires in
    all_first HasSoundTimes (joined c.self.inside.pieces.now) c.self.inside.last.now sound

pub returns-in-Some-clause-found : goal.returns-in-Some-clause-found
returns-in-Some-clause-found c =
    let a : SFits w64 c.args.run = search rules in
    let b : SFits w64 c.args.valid = search rules in
    let find = λ (files : List Loaded). cell files c.args.run c.args.valid in
    let found = simp to_z-of_z at c.in-Some.ensures.found in
    ap find (sym c.self.view_is) ∙ found_behind find (FindsLast-cell c.args.run c.args.valid)
    (joined c.self.inside.pieces.now) c.self.inside.last.now _ found

pub returns-in-None-clause-found : goal.returns-in-None-clause-found
returns-in-None-clause-found c =
    let a : SFits w64 c.args.run = search rules in
    let b : SFits w64 c.args.valid = search rules in
    let find = λ (files : List Loaded). cell files c.args.run c.args.valid in
    let missing = simp to_z-of_z at (c.in-None.ensures.none refl) in
    let same : find (joined c.self.inside.pieces.now) ≡ find c.args.self.now =
    sym (passed_behind find (FindsLast-cell c.args.run c.args.valid) (joined c.self.inside.pieces.now)
    c.self.inside.last.now missing) ∙ ap find c.self.view_is in
    rw (← same) (simp to_z-of_z at c.cell_in.ensures.found)

pub returns-in-None-clause-none : goal.returns-in-None-clause-none
returns-in-None-clause-none c =
    let a : SFits w64 c.args.run = search rules in
    let b : SFits w64 c.args.valid = search rules in
    let find = λ (files : List Loaded). cell files c.args.run c.args.valid in
    let missing = simp to_z-of_z at (c.in-None.ensures.none refl) in
    let same : find (joined c.self.inside.pieces.now) ≡ find c.args.self.now =
    sym (passed_behind find (FindsLast-cell c.args.run c.args.valid) (joined c.self.inside.pieces.now)
    c.self.inside.last.now missing) ∙ ap find c.self.view_is in
    rw (← same) (simp to_z-of_z at c.cell_in.ensures.none)
