-- The files of the found entry.
use Rattle.std.proofs.Common.{◌<◌, ◌∙◌, [], ap, get_or, length, rules, sym, SFits, w64}
use Rattle.std.proofs.lemmas.Int.{to_z-of_z}
use Rattle.std.proofs.lemmas.List.{get_or_default}
use Rattle.std.proofs.lemmas.List.Elements.{All-contains}
use Rattle.fm_edition.specs.Page.{found_in, or_none, Entries, IsListed}
use Rattle.fm_edition.proofs.maps.page.Page.files.Goals as goal

pub bounds-as_slice-entry : goal.bounds-as_slice-entry
bounds-as_slice-entry c = rw c.as_slice-in-Some.ensures (All-contains (IsListed c.self.inside.lists)
    c.self.inside.entries c.in-Some.entry c.self.invariant.listed (rw c.as_slice.ensures at c.in-Some.ensures.one))

pub returns-in-Some : goal.returns-in-Some
returns-in-Some c =
    let lists = c.self.inside.lists in
    let entry = c.in-Some.entry in
    let a : SFits w64 c.args.instant = search rules in
    let listed : entry.list < length lists = All-contains (IsListed lists)
    c.self.inside.entries entry c.self.invariant.listed (rw c.as_slice.ensures at c.in-Some.ensures.one) in
    let found = rw (c.as_slice.ensures, to_z-of_z w64 c.args.instant a) at c.in-Some.ensures.files lists in
    c.all.ensures ∙ c.index-as_slice-entry.is
    ∙ ap (λ l. get_or l entry.list c.index-as_slice-entry.result) c.as_slice-in-Some.ensures
    ∙ get_or_default lists entry.list c.index-as_slice-entry.result [] listed ∙ sym (ap or_none found)
    ∙ ap (λ (m : Entries). found_in m c.args.instant) c.self.view_is
