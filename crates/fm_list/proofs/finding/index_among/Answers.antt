-- The first index among the file's times.
use Rattle.std.proofs.Common.{rules, SFits, w64}
use Rattle.std.proofs.lemmas.Int.{to_z-of_z}
use Rattle.fm_list.proofs.finding.index_among.Goals as goal

pub first_index-requires-clause-differ : goal.first_index-requires-clause-differ
first_index-requires-clause-differ c = rw (c.as_slice-times.ensures, c.get.ensures) c.requires.sound.differ

pub first_index-requires-clause-rise : goal.first_index-requires-clause-rise
first_index-requires-clause-rise c = λ rise. rw (c.as_slice-times.ensures, c.get.ensures) (c.requires.rise rise)

pub returns-in-Some : goal.returns-in-Some
returns-in-Some c =
    let fits : SFits w64 c.args.valid = search rules in
    let at = simp to_z-of_z at c.first_index.ensures in
    cc (at, c.as_slice-times.ensures, c.get.ensures, c.in-Some.is)

pub returns-in-None : goal.returns-in-None
returns-in-None c =
    let fits : SFits w64 c.args.valid = search rules in
    let at = simp to_z-of_z at c.first_index.ensures in
    cc (at, c.as_slice-times.ensures, c.get.ensures, c.in-None.is)
