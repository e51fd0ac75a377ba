-- What becomes of the page of the number, or of none.
use Rattle.std.proofs.Common.{◌≡◌, ◌∙◌, List, None, Option, Some, ℤ, ap, rules, subst, sym, SFits, w64}
use Rattle.std.specs.Prelude.{option_and_then, IfOk}
use Rattle.std.specs.BTreeMap.{get, is_at}
use Rattle.std.specs.Map.{lookup}
use Rattle.std.specs.Option.{option_copied}
use Rattle.std.specs.Ordering.{int_cmp}
use Rattle.std.proofs.lemmas.Int.{to_z-of_z}
use Rattle.fm_model.specs.declared.loaded.Loaded.{Loaded}
use Rattle.fm_edition.specs.Page.{turned_at, Entries}
use Rattle.fm_edition.proofs.StepLemmas.{HasGone-entries}
use Rattle.fm_edition.proofs.maps.pages.page_after.Goals as goal

pub after-requires-clause-gone : goal.after-requires-clause-gone
after-requires-clause-gone c =
    let a : SFits w64 c.args.number = search rules in
    let value = simp to_z-of_z at c.get.ensures.value in
    HasGone-entries c.args.change.now.went.now c.args.change.now.op.now c.args.pages.now c.args.number
    c.get-in-Some.result.now c.requires.ordered c.requires.gone
    (sym value ∙ ap option_copied c.in-Some.is ∙ ap Some (sym c.get-in-Some.ensures))

pub returns-in-Some-clause-set : goal.returns-in-Some-clause-set
returns-in-Some-clause-set c =
    let a : SFits w64 c.args.number = search rules in
    let value = simp to_z-of_z at c.get.ensures.value in
    let found : get int_cmp c.args.pages.now c.args.number ≡ Some c.get-in-Some.result.now =
    sym value ∙ ap option_copied c.in-Some.is ∙ ap Some (sym c.get-in-Some.ensures) in
    subst (λ (o : Option Entries). IfOk c.after.result (λ page. (key : ℤ) → get int_cmp page key
    ≡ turned_at c.args.change.now.by c.args.touched.now c.args.change.now.op.now key
    (option_and_then (λ m. get int_cmp m key) o))) (sym found) c.after.ensures.set

pub returns-in-None-clause-set : goal.returns-in-None-clause-set
returns-in-None-clause-set c =
    let a : SFits w64 c.args.number = search rules in
    let value = simp to_z-of_z at c.get.ensures.value in
    let none : Option Entries = None in
    let found : get int_cmp c.args.pages.now c.args.number ≡ none = sym value ∙ ap option_copied c.in-None.is in
    subst (λ (o : Option Entries). IfOk c.after-in-None-2.result (λ page. (key : ℤ) → get int_cmp page key
    ≡ turned_at c.args.change.now.by c.args.touched.now c.args.change.now.op.now key
    (option_and_then (λ m. get int_cmp m key) o))) (sym found)
    (subst (λ (entries : List (ℤ × List Loaded)). IfOk c.after-in-None-2.result (λ page. (key : ℤ)
    → get int_cmp page key ≡ turned_at c.args.change.now.by c.args.touched.now c.args.change.now.op.now key
    (lookup (is_at (int_cmp key)) entries))) c.new.ensures c.after-in-None-2.ensures.set)
