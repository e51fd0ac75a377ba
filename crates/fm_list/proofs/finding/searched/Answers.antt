-- The time stands at the index; where the times rise and nothing is found, it isn't there.
use Rattle.std.proofs.Common.{rules, SFits, w64}
use Rattle.std.proofs.lemmas.Int.{to_z-of_z}
use Rattle.fm_list.proofs.SearchLemmas.{among_nowhere, found_at}
use Rattle.fm_list.proofs.finding.searched.Goals as goal

pub returns-in-Ok-clause-found : goal.returns-in-Ok-clause-found
returns-in-Ok-clause-found c =
    let a : SFits w64 c.args.valid = search rules in
    found_at c.args.times.now c.in-Ok.index c.args.valid c.in-Ok.ensures.bound (simp to_z-of_z at c.in-Ok.ensures.ok)

pub returns-in-Err-clause-none : goal.returns-in-Err-clause-none
returns-in-Err-clause-none c = λ none rises.
    let a : SFits w64 c.args.valid = search rules in
    let parted = simp to_z-of_z at c.in-Err.ensures.position in
    among_nowhere c.args.times.now _ c.args.valid rises parted
