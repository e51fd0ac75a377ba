-- The offset at the index.
use Rattle.std.proofs.Common.{rules, sym, ◌∙◌, SFits, w64}
use Rattle.std.proofs.lemmas.Int.{to_z-of_z}
use Rattle.fm_twod.proofs.lookup.number_of.Goals as goal

pub returns-in-Some : goal.returns-in-Some
returns-in-Some c =
    let fits : SFits w64 c.in-Some.offset = search rules in
    let found = simp to_z-of_z at c.number_in.ensures in
    rw (sym c.offset_at.ensures ∙ c.in-Some.is) found
