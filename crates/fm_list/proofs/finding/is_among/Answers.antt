-- Among instants that rise a search finds what is there.
use Rattle.std.proofs.Common.{rules, SFits, w64}
use Rattle.std.proofs.lemmas.Int.{to_z-of_z}
use Rattle.fm_list.proofs.SearchLemmas.{among_nowhere, among_there}
use Rattle.fm_list.proofs.finding.is_among.Goals as goal

pub returns-in-Ok : goal.returns-in-Ok
returns-in-Ok c =
    let a : SFits w64 c.args.instant = search rules in
    among_there c.args.instants.now _ c.args.instant c.in-Ok.ensures.bound (simp to_z-of_z at c.in-Ok.ensures.ok)

pub returns-in-Err : goal.returns-in-Err
returns-in-Err c =
    let a : SFits w64 c.args.instant = search rules in
    let parted = simp to_z-of_z at c.in-Err.ensures.position in
    among_nowhere c.args.instants.now _ c.args.instant c.requires parted
