-- The loop stops at the first run that doesn't keep the least offset, or at the end.
use Rattle.std.proofs.Common.{◌≡◌, get_or, rules, arith, ap, sym, ◌∙◌, SFits, w64}
use Rattle.std.proofs.lemmas.Int.{to_z-of_z}
use Rattle.fm_model.specs.Cell.{has_least_offset}
use Rattle.fm_edition.specs.declared.maps.latest.RunFiles.{RunFiles}
use Rattle.fm_edition.proofs.LatestLemmas.{first_late, none_late}
use Rattle.fm_edition.proofs.maps.latest.passed.Goals as goal

pub returns-else-keeps_least_offset-clause-stops : goal.returns-else-keeps_least_offset-clause-stops
returns-else-keeps_least_offset-clause-stops c =
    let own = c.index-runs-count.result in
    let item = get_or c.args.runs.now c.loop-count.count own in
    let a : SFits w64 item.run = search rules in
    let b : SFits w64 c.args.valid = search rules in
    let tested : c.keeps_least_offset.result ≡ has_least_offset c.args.least item.run c.args.valid =
    simp to_z-of_z at c.keeps_least_offset.ensures in
    first_late c.args.least c.args.valid c.args.runs.now c.loop-count.count own c.loop-count-test.true
    c.index-runs-count.is
    (ap (λ (run : RunFiles). has_least_offset c.args.least run.run c.args.valid) c.index-runs-count.is
    ∙ sym tested ∙ c.if-keeps_least_offset.false)

pub returns-after-loop-count-clause-stops : goal.returns-after-loop-count-clause-stops
returns-after-loop-count-clause-stops c =
    none_late c.args.least c.args.valid c.args.runs.now c.loop-count.count (omega (arith, c.loop-count-test.false))
