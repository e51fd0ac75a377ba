-- One more row lies at least so far after its run.
use Rattle.std.proofs.Common.{rules, arith, take, ◌≤ℤ◌, ◌-ℤ◌, SFits, w64}
use Rattle.std.proofs.lemmas.Int.{ints, to_z-of_z}
use Rattle.fm_edition.specs.Least.{LieAfter}
use Rattle.fm_edition.proofs.LeastSteps.{least_done, least_more}
use Rattle.fm_edition.proofs.maps.page_rows.least_of.Goals as goal

pub loop-row-init : goal.loop-row-init
loop-row-init c = λ k d lt. absurd (omega (arith, lt))

pub loop-row-preserved : goal.loop-row-preserved
loop-row-preserved c =
    let row = c.row-item.result in
    let a : SFits w64 row.valid = search rules in
    let b : SFits w64 row.run = search rules in
    let before : LieAfter c.loop-row.least (take c.loop-row.row-index c.args.rows.now) = λ k d lt.
    let so = c.loop-row.invariant k d lt in grind (arith, ints, to_z-of_z, so) in
    let first : c.lesser-least.result ≤ℤ c.loop-row.least = grind
    (arith, ints, to_z-of_z, c.lesser-least.ensures.first) in
    let second : c.lesser-least.result ≤ℤ (row.valid -ℤ row.run) = grind
    (arith, ints, to_z-of_z, c.lesser-least.ensures.second) in
    let after = least_more c.args.rows.now c.loop-row.row-index row c.loop-row.least c.lesser-least.result
    c.loop-row-test.true c.row-item.is before first second in
    λ k d lt. let so = after k d lt in grind (arith, ints, to_z-of_z, so)

pub returns : goal.returns
returns c =
    let before : LieAfter c.loop-row.least (take c.loop-row.row-index c.args.rows.now) = λ k d lt.
    let so = c.loop-row.invariant k d lt in grind (arith, ints, to_z-of_z, so) in
    let all = least_done c.args.rows.now c.loop-row.row-index c.loop-row.least c.loop-row-test.false before in
    λ k d lt. let so = all k d lt in grind (arith, ints, to_z-of_z, so)
