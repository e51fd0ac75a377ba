-- The parts of a date that has this day number are those of the number.
use Rattle.std.proofs.Common.{sym, subst, ℤ, pos, neg_ℤ, ◌≤ℤ◌, unsigned_abs, FitsSigned, w64}
use Rattle.std.proofs.lemmas.Int.{to_z-of_z}
use Rattle.tm_units.specs.Parts.{HasParts}
use Rattle.tm_units.proofs.DayLemmas.{HasParts-date}
use Rattle.tm_units.proofs.instant.date_of.Goals as goal

pub returns : goal.returns
returns c =
    let date = c.in-Ok.date in
    let fits : FitsSigned w64 c.args.day = c.ranges.day in
    let same = simp to_z-of_z at c.in-Ok.ensures.value in
    subst (λ (day : ℤ). HasParts day (unsigned_abs date.year) date.month date.day) same
    (HasParts-date date (subst (λ (day : ℤ). neg_ℤ (pos 719_528) ≤ℤ day) (sym same) c.requires.0))
