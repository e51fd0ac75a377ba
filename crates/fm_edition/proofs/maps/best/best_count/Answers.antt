-- One more page's rows are counted.
use Rattle.std.proofs.Common.{◌≡◌, ◌+◌, ◌++◌, ◌<◌, ◌^◌, ◌∙◌, length, arith, subst, sym}
use Rattle.std.specs.Prelude.{All}
use Rattle.std.specs.List.{filter_map}
use Rattle.std.proofs.lemmas.List.{length-append}
use Rattle.std.proofs.lemmas.Option.{none-some, same_Some}
use Rattle.fm_base.proofs.ListLemmas.{length-filter_map}
use Rattle.fm_edition.specs.Indexes.{best_of_entry, entries_in, entries_of, page_rows, IsTimed}
use Rattle.fm_edition.proofs.BestLemmas.{kept_entries, HasKept}
use Rattle.fm_edition.proofs.CountLemmas.{counted_page}
use Rattle.fm_edition.proofs.WalkLemmas.{all_first, all_parts, all_rest}
use Rattle.fm_edition.proofs.maps.best.best_count.Goals as goal

pub loop-number-init : goal.loop-number-init
loop-number-init c =
    let is : c.into_iter-number-iterator.result ≡ c.args.pages.now.entries =
    c.into_iter-number-iterator.ensures.into_iter_gives.0 in
    record {
      few = rw is c.requires.count;
      kept = rw is (kept_entries c.args.pages.now c.args.best.now c.requires.pages c.requires.best);
      timed = rw is c.requires.timed;
      counted = rw is (omega arith);
    }

pub kept_page-requires : goal.kept_page-requires
kept_page-requires c none =
    let kept = all_first (HasKept c.args.best.now) (c.in-Some.number.now, c.in-Some.field-0-1.now) c.next.new.self
    c.loop-number.number-iterator c.in-Some.ensures.steps c.loop-number.invariant.kept in
    none-some (page_rows c.in-Some.field-0-1.now) (sym none ∙ kept)

-- the rows with those of the page, and those of the pages that are left
next_count : (c : goal.After-count_from-count) → c.loop-number.count + c.count_from-count.result
    + length (filter_map (best_of_entry c.args.least) (entries_in c.next.new.self))
    ≡ length (filter_map (best_of_entry c.args.least) (entries_of c.args.pages.now))
next_count c =
    let make = best_of_entry c.args.least in
    let page = c.in-Some.field-0-1.now in
    let rest = entries_in c.next.new.self in
    let whole = length (filter_map make (entries_of c.args.pages.now)) in
    let kept = all_first (HasKept c.args.best.now) (c.in-Some.number.now, page) c.next.new.self
    c.loop-number.number-iterator c.in-Some.ensures.steps c.loop-number.invariant.kept in
    let all : All IsTimed (page.entries ++ rest) = subst (λ l. All IsTimed (entries_in l)) c.in-Some.ensures.steps
    c.loop-number.invariant.timed in
    let own : c.count_from-count.result ≡ length (filter_map make page.entries) = c.count_from-count.ensures page
    (same_Some c.kept_page.result.now (page_rows page) (sym c.kept_page.ensures ∙ kept))
    (all_parts IsTimed page.entries rest all).0 in
    let sum : c.loop-number.count + length (filter_map make (page.entries ++ rest)) ≡ whole =
    subst (λ l. c.loop-number.count + length (filter_map make (entries_in l)) ≡ whole) c.in-Some.ensures.steps
    c.loop-number.invariant.counted in
    rw own (counted_page make c.loop-number.count page.entries rest whole sum)

pub overflow_add-count : goal.overflow_add-count
overflow_add-count c =
    let make = best_of_entry c.args.least in
    let most = length-filter_map make (entries_of c.args.pages.now) in
    omega (arith, next_count c, most, c.requires.count)

pub loop-number-preserved : goal.loop-number-preserved
loop-number-preserved c =
    let page = c.in-Some.field-0-1.now in
    let few : length (page.entries ++ entries_in c.next.new.self) < 2 ^ 32 =
    subst (λ l. length (entries_in l) < 2 ^ 32) c.in-Some.ensures.steps c.loop-number.invariant.few in
    let all : All IsTimed (page.entries ++ entries_in c.next.new.self) =
    subst (λ l. All IsTimed (entries_in l)) c.in-Some.ensures.steps c.loop-number.invariant.timed in
    record {
      few = omega (arith, few, length-append page.entries (entries_in c.next.new.self));
      kept = all_rest (HasKept c.args.best.now) (c.in-Some.number.now, page) c.next.new.self
          c.loop-number.number-iterator c.in-Some.ensures.steps c.loop-number.invariant.kept;
      timed = (all_parts IsTimed page.entries (entries_in c.next.new.self) all).1;
      counted = next_count c;
    }
