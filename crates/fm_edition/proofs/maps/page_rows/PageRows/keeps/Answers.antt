-- Rows keep each offset up to the least of theirs.
use Rattle.std.proofs.Common.{◌≤ℤ◌, None, Some, rules, subst, arith, SFits, w64}
use Rattle.std.proofs.lemmas.Int.{ints, to_z-of_z}
use Rattle.fm_edition.specs.Kept.{KeptRows}
use Rattle.fm_edition.specs.Least.{KeepLeast}
use Rattle.fm_edition.proofs.LeastSteps.{keep_from, keep_none}
use Rattle.fm_edition.proofs.maps.page_rows.PageRows.keeps.Goals as goal

pub returns-in-Some : goal.returns-in-Some
returns-in-Some c =
    let a : SFits w64 c.in-Some.seconds = search rules in
    rw c.in-Some.is (λ holds.
    let below : c.in-Some.seconds ≤ℤ c.self.inside.least = grind (arith, ints, holds, to_z-of_z) in
    subst (λ (kept : KeptRows). KeepLeast (Some c.in-Some.seconds) kept.rows) c.self.view_is
    (keep_from c.self.inside.rows c.in-Some.seconds c.self.inside.least below c.self.invariant.0))

pub returns-in-None : goal.returns-in-None
returns-in-None c =
    rw c.in-None.is (λ holds. subst (λ (kept : KeptRows). KeepLeast None kept.rows) c.self.view_is
    (keep_none c.self.inside.rows))
