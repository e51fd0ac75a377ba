-- The instants one by one, and what all of them make of the page.
use Rattle.std.proofs.Common.{◌≡◌, ◌∙◌, ◌++◌, List, ap, get_or, pos, refl, rules, sym, SFits, w64}
use Rattle.std.specs.BTreeMap.{get, keys}
use Rattle.std.specs.Ordering.{int_cmp}
use Rattle.std.proofs.lemmas.Int.{to_z-of_z}
use Rattle.std.proofs.lemmas.List.{take_all}
use Rattle.std.proofs.lemmas.List.Elements.{All-nil}
use Rattle.fm_model.specs.Rising.{rising}
use Rattle.fm_edition.specs.declared.maps.page.Entry.{Entry}
use Rattle.fm_edition.specs.Page.{instants_of, map_of, Entries, IsListed}
use Rattle.fm_edition.specs.Turning.{files_of, turned_entries}
use Rattle.fm_edition.proofs.ShownLemmas.{keys-shown, IsOrdered-shown}
use Rattle.fm_edition.proofs.TurnedLemmas.{get-turned, turned_entries-more, HasGone-found, Rises-turned}
use Rattle.fm_edition.proofs.maps.page.Page.after.Goals as goal

pub loop-instant-init : goal.loop-instant-init
loop-instant-init c = record {
  before = refl;
  known = c.in_ok-turning.ensures.known c.args.change.now.op.now;
  listed = rw c.new-entries.ensures (All-nil (IsListed c.in_ok-turning.turning.lists));
  shown = rw c.new-entries.ensures refl;
}

pub push-requires-clause-gone : goal.push-requires-clause-gone
push-requires-clause-gone c =
    let key = get_or c.as_slice-instant-items.result.now c.loop-instant.instant-index (pos 0) in
    let a : SFits w64 key = search rules in
    let lists = c.loop-instant.turning.before.now in
    let before : lists ≡ c.self.inside.lists =
    c.loop-instant.invariant.before ∙ c.in_ok-turning.ensures.before ∙ c.as_slice-2.ensures in
    let found = rw (c.as_slice-in-loop-instant.ensures, to_z-of_z w64 key a) at c.entry_of-entry.ensures.files lists in
    let held = ap (λ (m : Entries). get int_cmp m key) (sym c.self.view_is)
    ∙ ap (λ l. get int_cmp (map_of l c.self.inside.entries) key) (sym before) ∙ found in
    HasGone-found c.args.change.now.went.now c.args.change.now.op.now c.args.self.now key
    (files_of lists c.entry_of-entry.result) c.requires.gone held

pub loop-instant-preserved : goal.loop-instant-preserved
loop-instant-preserved c =
    let items = c.as_slice-instant-items.result.now in
    let index = c.loop-instant.instant-index in
    let key = get_or items index (pos 0) in
    let a : SFits w64 key = search rules in
    let lists = c.loop-instant.turning.before.now in
    let before : lists ≡ c.self.inside.lists =
    c.loop-instant.invariant.before ∙ c.in_ok-turning.ensures.before ∙ c.as_slice-2.ensures in
    let found = rw (c.as_slice-in-loop-instant.ensures, to_z-of_z w64 key a) at c.entry_of-entry.ensures.files lists in
    let held = ap (λ (m : Entries). get int_cmp m key) (sym c.self.view_is)
    ∙ ap (λ l. get int_cmp (map_of l c.self.inside.entries) key) (sym before) ∙ found in
    record {
      before = c.in_ok-push.ensures.before ∙ c.loop-instant.invariant.before;
      known = c.in_ok-push.ensures.known;
      listed = c.in_ok-push.ensures.listed;
      shown = turned_entries-more c.args.change.now.by c.args.touched.now c.args.change.now.op.now c.args.self.now items
          index (pos 0) (files_of lists c.entry_of-entry.result) _ _ c.loop-instant-test.true held
          c.loop-instant.invariant.shown (rw (to_z-of_z w64 key a) at c.in_ok-push.ensures.shown);
    }

pub invariant_of-result : goal.invariant_of-result
invariant_of-result c =
    let by = c.args.change.now.by in
    let touched = c.args.touched.now in
    let op = c.args.change.now.op.now in
    let page = c.args.self.now in
    let instants = c.as_slice-instant-items.result.now in
    let are = c.loop-instant.invariant.shown ∙ ap (turned_entries by touched op page)
    (take_all c.loop-instant.instant-index instants c.loop-instant-test.false) in
    record {
      rises = Rises-turned by touched op page (instants_of c.as_slice.result.now) instants c.loop-instant.turning.lists
          c.loop-instant.entries (c.as_slice-instant-items.ensures ∙ c.in_ok-instants.ensures) are;
      listed = c.loop-instant.invariant.listed;
    }

pub returns-clause-ordered : goal.returns-clause-ordered
returns-clause-ordered c =
    let by = c.args.change.now.by in
    let touched = c.args.touched.now in
    let op = c.args.change.now.op.now in
    let page = c.args.self.now in
    let instants = c.as_slice-instant-items.result.now in
    let lists = c.loop-instant.turning.lists in
    let entries = c.loop-instant.entries in
    let are = c.loop-instant.invariant.shown ∙ ap (turned_entries by touched op page)
    (take_all c.loop-instant.instant-index instants c.loop-instant-test.false) in
    IsOrdered-shown lists entries (Rises-turned by touched op page (instants_of c.as_slice.result.now) instants lists
    entries (c.as_slice-instant-items.ensures ∙ c.in_ok-instants.ensures) are)

pub returns-clause-set : goal.returns-clause-set
returns-clause-set c =
    let by = c.args.change.now.by in
    let touched = c.args.touched.now in
    let op = c.args.change.now.op.now in
    let page = c.args.self.now in
    let instants = c.as_slice-instant-items.result.now in
    let own = c.self.inside.entries in
    let are = c.loop-instant.invariant.shown ∙ ap (turned_entries by touched op page)
    (take_all c.loop-instant.instant-index instants c.loop-instant-test.false) in
    get-turned by touched op page (instants_of own) instants c.loop-instant.turning.lists c.loop-instant.entries
    (ap (λ (m : Entries). keys m) (sym c.self.view_is) ∙ keys-shown c.self.inside.lists own)
    (c.as_slice-instant-items.ensures ∙ c.in_ok-instants.ensures
    ∙ ap (λ (l : List Entry). rising (instants_of l ++ touched)) c.as_slice.ensures) are
