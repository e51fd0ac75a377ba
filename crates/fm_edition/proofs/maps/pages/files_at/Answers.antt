-- What is found in the page of the instant.
use Rattle.std.proofs.Common.{◌≡◌, ◌∙◌, Some, ap, rules, sym, SFits, w64}
use Rattle.std.specs.Prelude.{option_and_then}
use Rattle.std.specs.BTreeMap.{get}
use Rattle.std.specs.Option.{option_copied}
use Rattle.std.specs.Ordering.{int_cmp}
use Rattle.std.proofs.lemmas.Int.{to_z-of_z}
use Rattle.fm_edition.specs.Indexes.{found_in, or_none, page_of, Entries}
use Rattle.fm_edition.proofs.maps.pages.files_at.Goals as goal

pub returns-in-Some : goal.returns-in-Some
returns-in-Some c =
    let key = c.args.key in
    let a : SFits w64 key = search rules in
    let b : SFits w64 c.page_of.result = search rules in
    let value = simp to_z-of_z at c.get.ensures.value in
    let number : c.page_of.result ≡ page_of key = simp to_z-of_z at c.page_of.ensures in
    let found : get int_cmp c.args.pages.now (page_of key) ≡ Some c.in-Some.page.now =
    ap (get int_cmp c.args.pages.now) (sym number) ∙ sym value ∙ ap option_copied c.in-Some.is in
    simp to_z-of_z at c.files.ensures ∙ ap (λ (m : Entries). found_in m key) c.get-in-Some.ensures
    ∙ ap (λ o. or_none (option_and_then (λ (m : Entries). get int_cmp m key) o)) (sym found)
