-- The walk from the end stops at the last file with the cell.
use Rattle.std.proofs.Common.{◌-◌, rules, arith, SFits, w64}
use Rattle.std.proofs.lemmas.Int.{to_z-of_z}
use Rattle.fm_list.proofs.CellSteps.{cell-found, cell-none, cell-passed}
use Rattle.fm_list.proofs.finding.cell_of.Goals as goal

pub returns-in-Some-clause-found : goal.returns-in-Some-clause-found
returns-in-Some-clause-found c =
    let a : SFits w64 c.args.run = search rules in
    let b : SFits w64 c.args.valid = search rules in
    let same = simp to_z-of_z at c.loop-before.invariant.same in
    let found = simp to_z-of_z at c.index_in.ensures in
    rw c.owner.ensures (cell-found c.args.files.now c.args.run c.args.valid
    (c.loop-before.before - 1) c.loop-before.before c.index-files-before.result c.in-Some.index
    (omega (arith, c.loop-before-test.true)) (omega
    (arith, c.loop-before-test.true, c.loop-before.invariant.within)) c.index-files-before.is
    (cc (found, c.in-Some.is)) same)

pub loop-before-preserved : goal.loop-before-preserved
loop-before-preserved c =
    let a : SFits w64 c.args.run = search rules in
    let b : SFits w64 c.args.valid = search rules in
    let same = simp to_z-of_z at c.loop-before.invariant.same in
    let found = simp to_z-of_z at c.index_in.ensures in
    record {
      within = omega (arith, c.loop-before.invariant.within);
      same = simp to_z-of_z (cell-passed c.args.files.now c.args.run c.args.valid
          (c.loop-before.before - 1) c.loop-before.before c.index-files-before.result
          (omega (arith, c.loop-before-test.true))
          (omega (arith, c.loop-before-test.true, c.loop-before.invariant.within)) c.index-files-before.is
          (cc (found, c.in_default.is)) same);
    }

pub returns-clause-none : goal.returns-clause-none
returns-clause-none c = λ _.
    let a : SFits w64 c.args.run = search rules in
    let b : SFits w64 c.args.valid = search rules in
    let same = simp to_z-of_z at c.loop-before.invariant.same in
    cell-none c.args.files.now c.args.run c.args.valid c.loop-before.before
    (omega (arith, c.loop-before-test.false)) same
