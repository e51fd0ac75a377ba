-- One more page.
use Rattle.std.proofs.Common.{◌≡◌, ◌+◌, ◌++◌, ◌<◌, ◌^◌, ℤ, List, length, arith, ap, subst, ◌∙◌}
use Rattle.std.specs.Prelude.{All}
use Rattle.std.specs.BTreeMap.{BTreeMap}
use Rattle.std.specs.List.{filter_map}
use Rattle.std.proofs.lemmas.List.{length-append}
use Rattle.fm_base.proofs.ListLemmas.{length-filter_map}
use Rattle.fm_model.specs.declared.loaded.Loaded.{Loaded}
use Rattle.fm_edition.specs.Indexes.{entries_in, entries_of, entry_row, IsSound}
use Rattle.fm_edition.proofs.CountLemmas.{counted_page}
use Rattle.fm_edition.proofs.WalkLemmas.{all_parts}
use Rattle.fm_edition.proofs.maps.walk.count_in.Goals as goal

pub count_page-count-requires-clause-count : goal.count_page-count-requires-clause-count
count_page-count-requires-clause-count c =
    let few : length (c.in-Some.page.now.entries ++ entries_in c.next.new.self) < 2 ^ 32 =
    subst (λ l. length (entries_in l) < 2 ^ 32) c.in-Some.ensures.steps c.loop-page.invariant.few in
    rw c.get.ensures (omega (arith, few, length-append c.in-Some.page.now.entries (entries_in c.next.new.self)))

pub count_page-count-requires-clause-sound : goal.count_page-count-requires-clause-sound
count_page-count-requires-clause-sound c =
    let all : All IsSound (c.in-Some.page.now.entries ++ entries_in c.next.new.self) =
    subst (λ l. All IsSound (entries_in l)) c.in-Some.ensures.steps c.loop-page.invariant.sound in
    rw c.get.ensures (all_parts IsSound c.in-Some.page.now.entries (entries_in c.next.new.self) all).0

pub overflow_add-count : goal.overflow_add-count
overflow_add-count c =
    let make = entry_row c.args.wanted in
    let sum : c.loop-page.count + length (filter_map make (c.in-Some.page.now.entries ++ entries_in c.next.new.self))
    ≡ length (filter_map make (entries_of c.args.pages.now)) = subst (λ l. c.loop-page.count
    + length (filter_map make (entries_in l)) ≡ length (filter_map make (entries_of c.args.pages.now)))
    c.in-Some.ensures.steps c.loop-page.invariant.counted in
    let next = counted_page make c.loop-page.count c.in-Some.page.now.entries (entries_in c.next.new.self)
    (length (filter_map make (entries_of c.args.pages.now))) sum in
    let own : c.count_page-count.result ≡ length (filter_map make c.in-Some.page.now.entries) =
    c.count_page-count.ensures
    ∙ ap (λ (m : BTreeMap ℤ (List Loaded)). length (filter_map make m.entries)) c.get.ensures in
    let most = length-filter_map make (entries_of c.args.pages.now) in
    omega (arith, next, own, most, c.requires.count)

pub loop-page-preserved : goal.loop-page-preserved
loop-page-preserved c =
    let make = entry_row c.args.wanted in
    let sum : c.loop-page.count + length (filter_map make (c.in-Some.page.now.entries ++ entries_in c.next.new.self))
    ≡ length (filter_map make (entries_of c.args.pages.now)) = subst (λ l. c.loop-page.count
    + length (filter_map make (entries_in l)) ≡ length (filter_map make (entries_of c.args.pages.now)))
    c.in-Some.ensures.steps c.loop-page.invariant.counted in
    let few : length (c.in-Some.page.now.entries ++ entries_in c.next.new.self) < 2 ^ 32 =
    subst (λ l. length (entries_in l) < 2 ^ 32) c.in-Some.ensures.steps c.loop-page.invariant.few in
    let all : All IsSound (c.in-Some.page.now.entries ++ entries_in c.next.new.self) =
    subst (λ l. All IsSound (entries_in l)) c.in-Some.ensures.steps c.loop-page.invariant.sound in
    let own : c.count_page-count.result ≡ length (filter_map make c.in-Some.page.now.entries) =
    c.count_page-count.ensures
    ∙ ap (λ (m : BTreeMap ℤ (List Loaded)). length (filter_map make m.entries)) c.get.ensures in
    record {
      few = omega (arith, few, length-append c.in-Some.page.now.entries (entries_in c.next.new.self));
      sound = (all_parts IsSound c.in-Some.page.now.entries (entries_in c.next.new.self) all).1;
      counted = rw own (counted_page make c.loop-page.count c.in-Some.page.now.entries (entries_in c.next.new.self)
          (length (filter_map make (entries_of c.args.pages.now))) sum);
    }

pub loop-page-init : goal.loop-page-init
loop-page-init c =
    let is : c.into_iter-page-iterator.result ≡ c.args.pages.now.entries =
    c.into_iter-page-iterator.ensures.into_iter_gives.0 in
    record { few = rw is c.requires.count; sound = rw is c.requires.sound; counted = rw is (omega arith) }
