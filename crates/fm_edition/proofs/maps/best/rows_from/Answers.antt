-- One more page's rows.
use Rattle.std.proofs.Common.{◌≡◌, ◌++◌, ◌∙◌, ap, refl, subst, sym}
use Rattle.std.specs.Prelude.{All}
use Rattle.std.specs.List.{filter_map}
use Rattle.std.proofs.lemmas.Option.{none-some, same_Some}
use Rattle.fm_edition.specs.Indexes.{best_of_entry, entries_in, entries_of, page_rows, IsTimed}
use Rattle.fm_edition.specs.Latest.{Leads}
use Rattle.fm_edition.proofs.BestLemmas.{kept_entries, ordered_entries, HasKept, HasOrder}
use Rattle.fm_edition.proofs.LatestLemmas.{leads_parts, leads_stays}
use Rattle.fm_edition.proofs.WalkLemmas.{all_first, all_parts, all_rest, some_taken}
use Rattle.fm_edition.proofs.maps.best.rows_from.Goals as goal

pub loop-number-init : goal.loop-number-init
loop-number-init c =
    let is : c.into_iter-number-iterator.result ≡ c.args.pages.now.entries =
    c.into_iter-number-iterator.ensures.into_iter_gives.0 in
    record {
      kept = rw is (kept_entries c.args.pages.now c.args.best.now c.requires.pages c.requires.best);
      ordered = rw is (ordered_entries c.args.pages.now c.requires.pages);
      leads = rw is c.requires.leads;
      timed = rw is c.requires.timed;
      made = rw (is, c.new-rows.ensures) refl;
    }

pub kept_page-requires : goal.kept_page-requires
kept_page-requires c none =
    let kept = all_first (HasKept c.args.best.now) (c.in-Some.number.now, c.in-Some.page.now) c.next.new.self
    c.loop-number.number-iterator c.in-Some.ensures.steps c.loop-number.invariant.kept in
    none-some (page_rows c.in-Some.page.now) (sym none ∙ kept)

pub push_from-requires-clause-kept : goal.push_from-requires-clause-kept
push_from-requires-clause-kept c =
    let page = c.in-Some.page.now in
    let kept = all_first (HasKept c.args.best.now) (c.in-Some.number.now, page) c.next.new.self
    c.loop-number.number-iterator c.in-Some.ensures.steps c.loop-number.invariant.kept in
    same_Some c.kept_page.result.now (page_rows page) (sym c.kept_page.ensures ∙ kept)
    ∙ ap page_rows (sym c.get.ensures)

pub push_from-requires-clause-timed : goal.push_from-requires-clause-timed
push_from-requires-clause-timed c =
    let all : All IsTimed (c.in-Some.page.now.entries ++ entries_in c.next.new.self) =
    subst (λ l. All IsTimed (entries_in l)) c.in-Some.ensures.steps c.loop-number.invariant.timed in
    rw c.get.ensures (all_parts IsTimed c.in-Some.page.now.entries (entries_in c.next.new.self) all).0

pub push_from-requires-clause-ordered : goal.push_from-requires-clause-ordered
push_from-requires-clause-ordered c =
    rw c.get.ensures (all_first HasOrder (c.in-Some.number.now, c.in-Some.page.now) c.next.new.self
    c.loop-number.number-iterator c.in-Some.ensures.steps c.loop-number.invariant.ordered)

pub push_from-requires-clause-leads : goal.push_from-requires-clause-leads
push_from-requires-clause-leads c =
    let page = c.in-Some.page.now.entries in
    let rest = entries_in c.next.new.self in
    let all : Leads c.loop-number.latest (page ++ rest) =
    subst (λ l. Leads c.loop-number.latest (entries_in l)) c.in-Some.ensures.steps c.loop-number.invariant.leads in
    rw c.get.ensures (leads_parts c.loop-number.latest page rest all).0

pub loop-number-preserved : goal.loop-number-preserved
loop-number-preserved c =
    let make = best_of_entry c.args.least in
    let page = c.in-Some.page.now in
    let all : All IsTimed (page.entries ++ entries_in c.next.new.self) =
    subst (λ l. All IsTimed (entries_in l)) c.in-Some.ensures.steps c.loop-number.invariant.timed in
    let sum : c.loop-number.rows ++ filter_map make (page.entries ++ entries_in c.next.new.self)
    ≡ filter_map make (entries_of c.args.pages.now) = subst (λ l. c.loop-number.rows
    ++ filter_map make (entries_in l) ≡ filter_map make (entries_of c.args.pages.now)) c.in-Some.ensures.steps
    c.loop-number.invariant.made in
    let led : Leads c.loop-number.latest (page.entries ++ entries_in c.next.new.self) =
    subst (λ l. Leads c.loop-number.latest (entries_in l)) c.in-Some.ensures.steps c.loop-number.invariant.leads in
    record {
      leads = leads_stays c.loop-number.latest c.push_from.new.latest (entries_in c.next.new.self)
          c.push_from.ensures.stays (leads_parts c.loop-number.latest page.entries (entries_in c.next.new.self) led).1;
      ordered = all_rest HasOrder (c.in-Some.number.now, page) c.next.new.self c.loop-number.number-iterator
          c.in-Some.ensures.steps c.loop-number.invariant.ordered;
      kept = all_rest (HasKept c.args.best.now) (c.in-Some.number.now, page) c.next.new.self
          c.loop-number.number-iterator c.in-Some.ensures.steps c.loop-number.invariant.kept;
      timed = (all_parts IsTimed page.entries (entries_in c.next.new.self) all).1;
      made = rw (c.in_ok-push_from.ensures.made, c.get.ensures) (some_taken make c.loop-number.rows
          page.entries (entries_in c.next.new.self) (filter_map make (entries_of c.args.pages.now)) sum);
    }
