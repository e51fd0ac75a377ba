-- One more instant of the page, and the first that isn't.
use Rattle.std.proofs.Common.{◌≡◌, ◌≢◌, ◌∙◌, arith, ap, get_or, pos, rules, sym, SFits, w64}
use Rattle.std.proofs.lemmas.Int.{ints, to_z-of_z}
use Rattle.std.proofs.lemmas.List.{get_or_default}
use Rattle.std.proofs.lemmas.List.Elements.{AllWithin-more}
use Rattle.fm_edition.specs.Indexes.{page_of}
use Rattle.fm_edition.proofs.maps.pages.page_end.Goals as goal

pub loop-at-preserved : goal.loop-at-preserved
loop-at-preserved c =
    let touched = c.args.touched.now in
    let at = c.loop-at.at in
    let number = to_z-of_z w64 c.args.number c.ranges.number in
    let key = get_or touched at (pos 0) in
    let a : SFits w64 key = search rules in
    let own : c.page_of.result ≡ page_of key = rw (to_z-of_z w64 key a) at c.page_of.ensures in
    let same : page_of key ≡ c.args.number = sym own ∙ grind (arith, ints, c.if-page_of-number.true) in
    record {
      order = omega (arith, c.loop-at.invariant.order);
      within = omega (arith, c.loop-at-test.true);
      own = rw number (AllWithin-more (λ key. page_of key ≡ c.args.number) touched c.args.from at
          (rw number at c.loop-at.invariant.own)
          (λ d. ap page_of (get_or_default touched at d (pos 0) c.loop-at-test.true) ∙ same));
    }

pub returns-else-page_of-number : goal.returns-else-page_of-number
returns-else-page_of-number c =
    let touched = c.args.touched.now in
    let at = c.loop-at.at in
    let number = to_z-of_z w64 c.args.number c.ranges.number in
    let key = get_or touched at (pos 0) in
    let a : SFits w64 key = search rules in
    let own : c.page_of.result ≡ page_of key = rw (to_z-of_z w64 key a) at c.page_of.ensures in
    let apart : page_of key ≢ c.args.number = λ is. grind (arith, ints, own, is, c.if-page_of-number.false) in
    let other : page_of (get_or touched at c.args.number) ≢ c.args.number = λ is. apart
    (ap page_of (get_or_default touched at (pos 0) c.args.number c.loop-at-test.true) ∙ is) in
    let later : c.args.from ≢ at = λ is. other (ap (λ n. page_of (get_or touched n c.args.number)) (sym is)
    ∙ c.requires.first) in
    record {
      some = omega (arith, c.loop-at.invariant.order, later);
      within = c.loop-at.invariant.within;
      own = rw number at c.loop-at.invariant.own;
      other = λ within. other;
    }
