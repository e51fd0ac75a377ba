-- One page's rows are set.
use Rattle.std.proofs.Common.{rules, ◌≡◌, ◌∙◌, if◌then◌else◌, Some, None, ap, sym, SFits, w64}
use Rattle.std.specs.BTreeMap.{get}
use Rattle.std.specs.Option.{option_copied, option_map}
use Rattle.std.specs.Ordering.{int_cmp, int_eq}
use Rattle.std.proofs.lemmas.Int.{to_z-of_z}
use Rattle.fm_edition.specs.Indexes.{page_rows, rows_at}
use Rattle.fm_edition.proofs.BestLemmas.{timed_page}
use Rattle.fm_edition.proofs.maps.best.set_rows.Goals as goal

pub kept_of-requires : goal.kept_of-requires
kept_of-requires c =
    let a : SFits w64 c.args.number = search rules in
    let value = simp to_z-of_z at c.get.ensures.value in
    let found : get int_cmp c.args.pages.now c.args.number ≡ Some c.in-Some.page.now =
    sym value ∙ ap option_copied c.in-Some.is in
    rw c.get-in-Some.ensures (timed_page c.args.pages.now c.args.number c.in-Some.page.now c.requires.timed found)

pub returns-in_ok-insert-in-Some-clause-set : goal.returns-in_ok-insert-in-Some-clause-set
unfolding rows_at
returns-in_ok-insert-in-Some-clause-set c other =
    let a : SFits w64 c.args.number = search rules in
    let value = simp to_z-of_z at c.get.ensures.value in
    let found : get int_cmp c.args.pages.now c.args.number ≡ Some c.in-Some.page.now =
    sym value ∙ ap option_copied c.in-Some.is in
    let same : Some c.in_ok-rows-in-Some.rows ≡ rows_at c.args.pages.now c.args.number =
    ap Some (c.in_ok-rows-in-Some.ensures ∙ ap page_rows c.get-in-Some.ensures)
    ∙ ap (option_map page_rows) (sym found) in
    simp to_z-of_z at (c.in_ok-insert-in-Some.ensures.updates.0 other)
    ∙ ap (λ rows. if int_eq c.args.number other then rows else get int_cmp c.args.best.now other) same

pub returns-in-None-clause-set : goal.returns-in-None-clause-set
unfolding rows_at
returns-in-None-clause-set c other =
    let a : SFits w64 c.args.number = search rules in
    let value = simp to_z-of_z at c.get.ensures.value in
    let found : get int_cmp c.args.pages.now c.args.number ≡ None = sym value ∙ ap option_copied c.in-None.is in
    simp to_z-of_z at (c.remove.ensures.updates.0 other)
    ∙ ap (λ rows. if int_eq c.args.number other then rows else get int_cmp c.args.best.now other)
    (ap (option_map page_rows) (sym found))
