-- The walk from the last piece stops at the first in which something is found.
use Rattle.std.proofs.Common.{◌-◌, List, length, refl, rules, arith, ap, sym, ◌∙◌, SFits, w64}
use Rattle.std.specs.Prelude.{is_some}
use Rattle.std.proofs.lemmas.Int.{to_z-of_z}
use Rattle.fm_model.specs.declared.loaded.Loaded.{Loaded}
use Rattle.fm_model.specs.Cell.{cell}
use Rattle.fm_list.specs.Selected.{HasSoundTimes}
use Rattle.fm_edition.specs.Pieces.{joined}
use Rattle.fm_edition.proofs.FoundLemmas.{found-from, found-none, found-passed, found-piece, FindsLast-cell}
use Rattle.fm_edition.proofs.PieceLemmas.{all_piece, in_pieces}
use Rattle.fm_edition.proofs.maps.files.found.cell_in.Goals as goal

pub loop-before-init : goal.loop-before-init
loop-before-init c =
    let a : SFits w64 c.args.run = search rules in
    let b : SFits w64 c.args.valid = search rules in
    record {
      within = omega arith;
      same = simp to_z-of_z (found-from (λ (files : List Loaded). cell files c.args.run c.args.valid)
          c.args.pieces.now (length c.args.pieces.now) refl);
    }

pub cell_of-requires : goal.cell_of-requires
cell_of-requires c = rw (c.as_slice-files.ensures, c.get.ensures) (all_piece HasSoundTimes c.args.pieces.now
    c.index-pieces-before.result (in_pieces c.args.pieces.now (c.loop-before.before - 1) c.index-pieces-before.result
    (omega (arith, c.loop-before-test.true, c.loop-before.invariant.within)) c.index-pieces-before.is) c.requires)

pub returns-in-Some-clause-found : goal.returns-in-Some-clause-found
returns-in-Some-clause-found c =
    let a : SFits w64 c.args.run = search rules in
    let b : SFits w64 c.args.valid = search rules in
    let same = simp to_z-of_z at c.loop-before.invariant.same in
    let pieces = c.args.pieces.now in
    let piece = c.index-pieces-before.result in
    let find = λ (files : List Loaded). cell files c.args.run c.args.valid in
    let found = simp to_z-of_z at c.in-Some.ensures.found in
    let own = ap find (sym (c.as_slice-files.ensures ∙ c.get.ensures)) ∙ found in
    found-piece find (FindsLast-cell c.args.run c.args.valid) pieces (find (joined pieces)) (c.loop-before.before - 1)
    c.loop-before.before piece _ (omega (arith, c.loop-before-test.true))
    (omega (arith, c.loop-before-test.true, c.loop-before.invariant.within)) c.index-pieces-before.is own same

pub loop-before-preserved : goal.loop-before-preserved
loop-before-preserved c =
    let a : SFits w64 c.args.run = search rules in
    let b : SFits w64 c.args.valid = search rules in
    let same = simp to_z-of_z at c.loop-before.invariant.same in
    let pieces = c.args.pieces.now in
    let piece = c.index-pieces-before.result in
    let find = λ (files : List Loaded). cell files c.args.run c.args.valid in
    let missing = simp to_z-of_z at (c.cell_of.ensures.none (ap is_some c.in_default.is)) in
    let none = ap find (sym (c.as_slice-files.ensures ∙ c.get.ensures)) ∙ missing in
    record {
      within = omega (arith, c.loop-before.invariant.within);
      same = simp to_z-of_z (found-passed find (FindsLast-cell c.args.run c.args.valid) pieces (find (joined pieces))
          (c.loop-before.before - 1) c.loop-before.before piece (omega (arith, c.loop-before-test.true))
          (omega (arith, c.loop-before-test.true, c.loop-before.invariant.within)) c.index-pieces-before.is none same);
    }

pub returns-clause-none : goal.returns-clause-none
returns-clause-none c = λ _.
    let a : SFits w64 c.args.run = search rules in
    let b : SFits w64 c.args.valid = search rules in
    let same = simp to_z-of_z at c.loop-before.invariant.same in
    let pieces = c.args.pieces.now in
    let find = λ (files : List Loaded). cell files c.args.run c.args.valid in
    found-none find (FindsLast-cell c.args.run c.args.valid) pieces (find (joined pieces)) c.loop-before.before
    (omega (arith, c.loop-before-test.false)) same
