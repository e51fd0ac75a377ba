-- The entry at the index, with the list that it names.
use Rattle.std.proofs.Common.{◌≡◌, ◌<◌, ◌∙◌, [], ap, arith, get_or, length, pos, rules, SFits, w64}
use Rattle.std.proofs.lemmas.Int.{to_z-of_z}
use Rattle.std.proofs.lemmas.List.{get_or_default, length-map}
use Rattle.fm_edition.specs.Page.{shown, Entries}
use Rattle.fm_edition.specs.declared.maps.page.Entry.{Entry}
use Rattle.fm_edition.proofs.ShownLemmas.{drop_shown}
use Rattle.fm_edition.proofs.maps.page.Page.entry.Goals as goal

pub returns : goal.returns
returns c =
    let entries = c.self.inside.entries in
    let lists = c.self.inside.lists in
    let at = c.args.at in
    let d : Entry = record { instant = pos 0; list = 0 } in
    let a : SFits w64 (get_or c.as_slice.result.now at d).instant = search rules in
    let long = ap (λ (m : Entries). length m.entries) c.self.view_is in
    let within : at < length entries = omega (arith, long, c.requires, length-map entries (shown lists)) in
    let listed : (get_or entries at d).list < length lists = c.self.invariant.listed at d within in
    let files : c.all.result ≡ get_or lists (get_or entries at d).list [] = c.all.ensures ∙ c.index-as_slice-list.is
    ∙ ap (λ l. get_or l (get_or c.as_slice.result.now at d).list c.index-as_slice-list.result) c.as_slice-2.ensures
    ∙ ap (λ l. get_or lists (get_or l at d).list c.index-as_slice-list.result) c.as_slice.ensures
    ∙ get_or_default lists (get_or entries at d).list c.index-as_slice-list.result [] listed in
    rw (← c.self.view_is, to_z-of_z w64 (get_or c.as_slice.result.now at d).instant a, c.as_slice.ensures)
    (drop_shown lists entries at d c.all.result within files)
