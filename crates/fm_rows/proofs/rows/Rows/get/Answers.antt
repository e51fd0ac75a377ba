-- The last page that begins at or before the index has the row.
use Rattle.std.proofs.Common.{◌≡◌, ◌-◌, ◌∙◌, ap, slice_get, subst, sym}
use Rattle.std.specs.List.Sorted.{IsNonDecreasingBy}
use Rattle.fm_rows.specs.declared.rows.Page.{Page}
use Rattle.fm_rows.specs.Pages.{rows_in, AreBegun, ArePages}
use Rattle.fm_rows.proofs.PageLemmas.{last_begun, none_begun, pages_rise, HasRow}
use Rattle.fm_rows.proofs.rows.Rows.get.Goals as goal

pub begun_at-begun-requires : goal.begun_at-begun-requires
begun_at-begun-requires c = subst (IsNonDecreasingBy (λ (p : Page). p.start)) (sym c.as_slice-pages.ensures)
    (pages_rise c.self.inside.pages c.self.inside.len c.self.invariant)

pub returns-then-begun-eq0-clause-none : goal.returns-then-begun-eq0-clause-none
returns-then-begun-eq0-clause-none c none =
    let pages = c.as_slice-pages.result.now in
    let are = subst (λ l. ArePages l c.self.inside.len) (sym c.as_slice-pages.ensures) c.self.invariant in
    let point = subst (AreBegun pages c.args.index) c.if-begun-eq0.true c.begun_at-begun.ensures.begun in
    ap (λ rows. slice_get rows c.args.index) (sym c.self.view_is ∙ ap rows_in (sym c.as_slice-pages.ensures))
    ∙ none_begun pages c.self.inside.len c.args.index are point

pub overflow_sub-index : goal.overflow_sub-index
overflow_sub-index c =
    let pages = c.as_slice-pages.result.now in
    let are = subst (λ l. ArePages l c.self.inside.len) (sym c.as_slice-pages.ensures) c.self.invariant in
    let has = last_begun pages c.self.inside.len c.args.index c.begun_at-begun.result c.index-pages-begun.result are
    c.begun_at-begun.ensures.bound c.begun_at-begun.ensures.begun c.if-begun-eq0.false in
    (subst (HasRow pages c.args.index) (sym c.index-pages-begun.is) has).begins

pub returns-clause-found : goal.returns-clause-found
returns-clause-found c =
    let pages = c.as_slice-pages.result.now in
    let page = c.index-pages-begun.result in
    let are = subst (λ l. ArePages l c.self.inside.len) (sym c.as_slice-pages.ensures) c.self.invariant in
    let has = last_begun pages c.self.inside.len c.args.index c.begun_at-begun.result page are
    c.begun_at-begun.ensures.bound c.begun_at-begun.ensures.begun c.if-begun-eq0.false in
    let row : slice_get c.args.self.now c.args.index
    ≡ slice_get c.get.result.now (c.args.index - page.start) =
    ap (λ rows. slice_get rows c.args.index) (sym c.self.view_is ∙ ap rows_in (sym c.as_slice-pages.ensures))
    ∙ (subst (HasRow pages c.args.index) (sym c.index-pages-begun.is) has).row
    ∙ ap (λ rows. slice_get rows (c.args.index - page.start)) (sym c.get.ensures) in
    rw row c.row_at.ensures.found

pub returns-clause-none : goal.returns-clause-none
returns-clause-none c =
    let pages = c.as_slice-pages.result.now in
    let page = c.index-pages-begun.result in
    let are = subst (λ l. ArePages l c.self.inside.len) (sym c.as_slice-pages.ensures) c.self.invariant in
    let has = last_begun pages c.self.inside.len c.args.index c.begun_at-begun.result page are
    c.begun_at-begun.ensures.bound c.begun_at-begun.ensures.begun c.if-begun-eq0.false in
    let row : slice_get c.args.self.now c.args.index
    ≡ slice_get c.get.result.now (c.args.index - page.start) =
    ap (λ rows. slice_get rows c.args.index) (sym c.self.view_is ∙ ap rows_in (sym c.as_slice-pages.ensures))
    ∙ (subst (HasRow pages c.args.index) (sym c.index-pages-begun.is) has).row
    ∙ ap (λ rows. slice_get rows (c.args.index - page.start)) (sym c.get.ensures) in
    rw row c.row_at.ensures.none
