-- One more instant is that of one file, or not.
use Rattle.std.proofs.Common.{◌≡◌, ◌+◌, true, false, drop, refl, sym, ◌∙◌}
use Rattle.fm_edition.specs.Indexes.{each_one, is_one}
use Rattle.fm_edition.proofs.maps.walk.each_one.Goals as goal

pub returns-then-not-is_one : goal.returns-then-not-is_one
returns-then-not-is_one c =
    let one : is_one c.entry-files.result.1 ≡ false = sym c.is_one.ensures ∙ c.if-not-is_one.true in
    let step : each_one (drop c.loop-at.at c.args.page.now.entries) ≡ false = rw (c.entry-files.ensures, one) refl in
    sym (sym c.loop-at.invariant ∙ step)

pub loop-at-preserved : goal.loop-at-preserved
loop-at-preserved c =
    let page = c.args.page.now.entries in
    let one : is_one c.entry-files.result.1 ≡ true = sym c.is_one.ensures ∙ c.if-not-is_one.false in
    let step : each_one (drop c.loop-at.at page) ≡ each_one (drop (c.loop-at.at + 1) page) =
    rw (c.entry-files.ensures, one) refl in
    sym step ∙ c.loop-at.invariant
