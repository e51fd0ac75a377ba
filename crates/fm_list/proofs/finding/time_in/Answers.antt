-- Where the times lie evenly apart, the index that is told is the first of the time.
use Rattle.std.proofs.Common.{rules, SFits, w64}
use Rattle.std.proofs.lemmas.Int.{to_z-of_z}
use Rattle.fm_list.proofs.SpacingLemmas.{told-position}
use Rattle.fm_list.proofs.finding.time_in.Goals as goal

pub returns-in-Even : goal.returns-in-Even
returns-in-Even c =
    let a : SFits w64 c.args.valid = search rules in
    let b : SFits w64 c.in-Even.first = search rules in
    told-position c.in-Even.count c.in-Even.step c.in-Even.first c.args.file.now.times c.args.valid c.even_index.result
    c.in-Even.ensures
    c.requires.differ (simp to_z-of_z at c.even_index.ensures.found) (simp to_z-of_z at c.even_index.ensures.none)
