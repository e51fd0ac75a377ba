-- One more page.
use Rattle.std.proofs.Common.{rules, ◌≡◌, ◌++◌, IfOk, List, subst, refl}
use Rattle.std.specs.Prelude.{All}
use Rattle.std.specs.List.{filter_map}
use Rattle.fm_model.specs.declared.row.Row.{Row}
use Rattle.fm_edition.specs.Indexes.{entries_in, entries_of, entry_row, IsSound}
use Rattle.fm_edition.proofs.WalkLemmas.{all_parts, some_taken}
use Rattle.fm_edition.proofs.maps.walk.rows_in.Goals as goal

pub push_page-requires : goal.push_page-requires
push_page-requires c =
    let all : All IsSound (c.in-Some.page.now.entries ++ entries_in c.next.new.self) =
    subst (λ l. All IsSound (entries_in l)) c.in-Some.ensures.steps c.loop-page.invariant.sound in
    rw c.get.ensures (all_parts IsSound c.in-Some.page.now.entries (entries_in c.next.new.self) all).0

pub loop-page-preserved : goal.loop-page-preserved
loop-page-preserved c =
    let make = entry_row c.args.wanted in
    let all : All IsSound (c.in-Some.page.now.entries ++ entries_in c.next.new.self) =
    subst (λ l. All IsSound (entries_in l)) c.in-Some.ensures.steps c.loop-page.invariant.sound in
    let sum : c.loop-page.rows ++ filter_map make (c.in-Some.page.now.entries ++ entries_in c.next.new.self)
    ≡ filter_map make (entries_of c.args.pages.now) = subst (λ l. c.loop-page.rows ++ filter_map make (entries_in l)
    ≡ filter_map make (entries_of c.args.pages.now)) c.in-Some.ensures.steps c.loop-page.invariant.made in
    record {
      sound = (all_parts IsSound c.in-Some.page.now.entries (entries_in c.next.new.self) all).1;
      made = rw (c.in_ok-push_page.ensures, c.get.ensures) (some_taken make c.loop-page.rows c.in-Some.page.now.entries
          (entries_in c.next.new.self) (filter_map make (entries_of c.args.pages.now)) sum);
    }

pub loop-page-init : goal.loop-page-init
loop-page-init c =
    let is : c.into_iter-page-iterator.result ≡ c.args.pages.now.entries =
    c.into_iter-page-iterator.ensures.into_iter_gives.0 in
    record { sound = rw is c.requires; made = rw (is, c.new-rows.ensures) refl }

pub returns : goal.returns
returns c =
    let made : c.loop-page.rows ≡ filter_map (entry_row c.args.wanted) (entries_of c.args.pages.now) = search rules in
    subst (λ (page : List Row). IfOk c.of_page.result (λ rows. rows ≡ page)) made c.of_page.ensures
