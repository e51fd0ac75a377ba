-- The instant before the index is in the page.
use Rattle.std.proofs.Common.{rules, ◌≡◌, ◌+◌, ◌-◌, ◌<◌, ◌∙◌, arith, get_or, length, pos, subst, sym, take, true, SFits, w64}
use Rattle.std.proofs.lemmas.Int.{ints, to_z-of_z}
use Rattle.fm_edition.specs.Indexes.{page_of, touches}
use Rattle.fm_edition.proofs.BestLemmas.{touches-last}
use Rattle.fm_edition.proofs.maps.best.begins_page.Goals as goal

pub returns-else-at-eq0 : goal.returns-else-at-eq0
returns-else-at-eq0 c same =
    let touched = c.args.touched.now in
    let last = c.args.at - 1 in
    let key = get_or touched last (pos 0) in
    let a : SFits w64 key = search rules in
    let b : SFits w64 c.page_of.result = search rules in
    let own : c.page_of.result ≡ page_of key = simp to_z-of_z at c.page_of.ensures in
    let is : page_of key ≡ c.args.number = sym own ∙ grind (arith, ints, same) in
    let whole : last + 1 ≡ c.args.at = omega (arith, c.if-at-eq0.false) in
    let lt : last < length touched = omega (arith, whole, c.requires) in
    subst (λ n. touches (take n touched) c.args.number ≡ true) whole
    (subst (λ n. touches (take (last + 1) touched) n ≡ true) is (touches-last touched last (pos 0) lt))
