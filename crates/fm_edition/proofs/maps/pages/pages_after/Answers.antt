-- The clone of the pages, one more page, and all of them.
use Rattle.std.proofs.Common.{rules, ◌≡◌, ◌≢◌, ◌∙◌, ap, arith, get_or, pos, refl, subst, sym, take, SFits, w64}
use Rattle.std.specs.Prelude.{All}
use Rattle.std.proofs.lemmas.Int.{to_z-of_z}
use Rattle.std.proofs.lemmas.List.{get_or_default, take_all}
use Rattle.std.proofs.lemmas.List.Elements.{All-nil}
use Rattle.fm_edition.specs.Indexes.{in_page, page_of}
use Rattle.fm_edition.specs.Steps.{AreDone}
use Rattle.fm_edition.proofs.PageLemmas.{same_entries, in_page-same, page_set-none, AreOrdered-same}
use Rattle.fm_edition.proofs.StepLemmas.{page_apart, AreDone-more, Rises-part}
use Rattle.fm_edition.proofs.maps.pages.pages_after.Goals as goal

pub page_after-requires-clause-own : goal.page_after-requires-clause-own
page_after-requires-clause-own c = c.requires.own

pub page_after-requires-clause-gone : goal.page_after-requires-clause-gone
page_after-requires-clause-gone c = c.requires.gone

pub page_after-requires-clause-ordered : goal.page_after-requires-clause-ordered
page_after-requires-clause-ordered c = c.requires.ordered

pub page_after-requires-clause-touched : goal.page_after-requires-clause-touched
page_after-requires-clause-touched c = Rises-part c.args.change.now.touched.now c.loop-at.at c.page_end-end.result
    c.page_end-end.ensures.within c.requires.rise

pub loop-at-init : goal.loop-at-init
loop-at-init c =
    let same : c.in_ok-next.next.entries ≡ c.args.pages.now.entries = same_entries c.args.pages.now.entries
    c.in_ok-next.next.entries c.in_ok-next.ensures.cases in
    record {
      within = omega arith;
      done = record {
        ordered = AreOrdered-same c.args.pages.now c.in_ok-next.next same c.requires.ordered;
        set = λ number key. in_page-same c.args.pages.now c.in_ok-next.next same number key
            ∙ sym (page_set-none c.args.change.now.by c.args.change.now.op.now (in_page c.args.pages.now) number key);
        same = λ number none. rw same refl;
      };
      apart = λ some. All-nil (λ key. page_of key ≢ page_of (get_or c.args.change.now.touched.now 0 (pos 0)));
    }

pub loop-at-preserved : goal.loop-at-preserved
loop-at-preserved c =
    let touched = c.args.change.now.touched.now in
    let at = c.loop-at.at in
    let end = c.page_end-end.result in
    let key = get_or touched at (pos 0) in
    let number = c.page_of-number.result in
    let a : SFits w64 key = search rules in
    let b : SFits w64 number = record { sfits = c.page_of-number.type_inv } in
    let own : number ≡ page_of key = rw (to_z-of_z w64 key a) at c.page_of-number.ensures in
    let apart : All (λ k. page_of k ≢ number) (take at touched) = rw own
    (c.loop-at.invariant.apart c.loop-at-test.true) in
    let is = rw (to_z-of_z w64 number b) at c.page_end-end.ensures in
    record {
      within = is.within;
      done = AreDone-more c.args.change.now.by touched c.args.change.now.op.now c.args.pages.now c.loop-at.next
          c.set_page.new.pages at end number c.in_ok-page.page c.loop-at.invariant.done apart is
          (rw (to_z-of_z w64 number b) at c.in_ok-page.ensures.set)
          (rw (to_z-of_z w64 number b) at c.in_ok-set_page.ensures);
      apart = page_apart touched at end number (pos 0) c.requires.rise is;
    }

pub returns : goal.returns
returns c = subst
    (λ l. AreDone c.args.change.now.by l c.args.change.now.op.now c.args.pages.now c.loop-at.next)
    (take_all c.loop-at.at c.args.change.now.touched.now c.loop-at-test.false) c.loop-at.invariant.done

pub loop-at-smaller : goal.loop-at-smaller
loop-at-smaller c = omega (arith, c.page_end-end.ensures.some, c.page_end-end.ensures.within)

pub page_end-end-requires-clause-first : goal.page_end-end-requires-clause-first
page_end-end-requires-clause-first c =
    let touched = c.args.change.now.touched.now in
    let key = get_or touched c.loop-at.at (pos 0) in
    let number = c.page_of-number.result in
    let a : SFits w64 key = search rules in
    let b : SFits w64 number = record { sfits = c.page_of-number.type_inv } in
    let own : number ≡ page_of key = rw (to_z-of_z w64 key a) at c.page_of-number.ensures in
    rw (to_z-of_z w64 number b)
    (ap page_of (get_or_default touched c.loop-at.at number (pos 0) c.loop-at-test.true) ∙ sym own)

pub set_page-requires-clause-page : goal.set_page-requires-clause-page
set_page-requires-clause-page c = c.in_ok-page.ensures.ordered

pub set_page-requires-clause-pages : goal.set_page-requires-clause-pages
set_page-requires-clause-pages c = c.loop-at.invariant.done.ordered
