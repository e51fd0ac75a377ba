-- Where the times differ, the index that a search finds is the first. Where they rise, a search finds what is there.
use Rattle.std.proofs.Common.{ap, rules, SFits, w64}
use Rattle.std.specs.Prelude.{is_some}
use Rattle.std.proofs.lemmas.Int.{to_z-of_z}
use Rattle.fm_list.proofs.SearchLemmas.{position_is, position-nowhere}
use Rattle.fm_list.proofs.finding.first_index.Goals as goal

pub returns-in-Some : goal.returns-in-Some
returns-in-Some c =
    let a : SFits w64 c.args.valid = search rules in
    position_is c.args.times.now c.in-Some.index c.args.valid c.requires.differ
    (simp to_z-of_z at c.in-Some.ensures.found)

pub returns-then-rise : goal.returns-then-rise
returns-then-rise c =
    let a : SFits w64 c.args.valid = search rules in
    position-nowhere c.args.times.now c.args.valid
    (simp to_z-of_z at c.searched.ensures.none (ap is_some c.in_default.is) (c.requires.rise c.if-rise.true))
