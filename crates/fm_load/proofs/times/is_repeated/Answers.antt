-- What is later than all is new.
use Rattle.std.proofs.Common.{◌≡◌, false, sym, ap₂, ◌∙◌, w64}
use Rattle.std.specs.Int.Signed.{le_z}
use Rattle.std.proofs.lemmas.Int.{to_z-of_z}
use Rattle.fm_load.proofs.InstantLemmas.{later_is_new}
use Rattle.fm_load.proofs.times.is_repeated.Goals as goal

pub returns-else-instant-latest : goal.returns-else-instant-latest
returns-else-instant-latest c =
    let instant = to_z-of_z w64 c.args.instant c.ranges.instant in
    let latest = to_z-of_z w64 c.args.latest c.ranges.latest in
    let later : le_z c.args.instant c.args.latest ≡ false = sym (ap₂ le_z instant latest) ∙ c.if-instant-latest.false in
    c.if-instant-latest.false ∙ sym (later_is_new c.args.found.now c.args.latest c.args.instant c.requires later)
