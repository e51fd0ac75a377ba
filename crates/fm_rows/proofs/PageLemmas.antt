-- Where the rows of a page stand among those of all pages.
use Rattle.std.proofs.Common.{◌≡◌, ℕ, zero, suc, ◌+◌, ◌-◌, ◌<◌, ◌≤◌, ◌++◌, List, [], ◌∷◌, length, get_or, take, slice_get, Some, None, arith, sym, ap, ◌∙◌, inl, inr}
use Rattle.std.specs.List.Sorted.{IsNonDecreasingBy}
use Rattle.std.proofs.lemmas.Bool.{cases_lt, leb-false, leb-true}
use Rattle.std.proofs.lemmas.Grind.{flat_map-append}
use Rattle.std.proofs.lemmas.List.{append-nil, length-append, take_all, take_more}
use Rattle.std.proofs.lemmas.List.Concat.{get_or-flat_map}
use Rattle.std.proofs.lemmas.List.Folds.{length-flat_map-take}
use Rattle.std.proofs.lemmas.Option.{slice_get-get_or, slice_get_cases, slice_get_past}
use Rattle.fm_model.specs.declared.row.Row.{Row}
use Rattle.fm_rows.specs.declared.rows.Page.{Page}
use Rattle.fm_rows.specs.Pages.{rows_in, AreBegun, ArePages}

-- before a later page stand no fewer rows
starts_rise : (pages : List Page) (i j : ℕ) → i ≤ j
    → length (rows_in (take i pages)) ≤ length (rows_in (take j pages))
starts_rise pages zero j le = omega arith
starts_rise pages (suc i) zero le = absurd (omega (arith, le))
starts_rise [] (suc i) (suc j) le = omega arith
starts_rise (page ∷ pages) (suc i) (suc j) le =
    let more = starts_rise pages i j (omega (arith, le)) in
    omega (
      arith,
      more,
      length-append page.rows (rows_in (take i pages)),
      length-append page.rows (rows_in (take j pages)),
    )

pub pages_rise : (pages : List Page) (len : ℕ) → ArePages pages len → IsNonDecreasingBy (λ (p : Page). p.start) pages
pages_rise pages len are i j d le lt =
    let rise = starts_rise pages i j le in
    omega (arith, rise, are.starts i d (omega (arith, le, lt)), are.starts j d lt)

-- behind a page stand its rows and those before it
after_page : (pages : List Page) (i : ℕ) (d : Page) → i < length pages
    → length (rows_in (take (i + 1) pages)) ≡ length (rows_in (take i pages)) + length (get_or pages i d).rows
after_page pages i d lt =
    let page = get_or pages i d in
    let rows : Page → List Row = λ p. p.rows in
    ap (λ l. length (rows_in l)) (take_more pages i d lt)
    ∙ ap length (flat_map-append rows (take i pages) (page ∷ []))
    ∙ ap (λ l. length (rows_in (take i pages) ++ l)) (append-nil page.rows)
    ∙ length-append (rows_in (take i pages)) page.rows

-- the row at an index is that of the last page that begins at or before it
pub row_in_page : (pages : List Page) (i index : ℕ) (d : Page) → i < length pages
    → length (rows_in (take i pages)) ≤ index
    → (i + 1 < length pages → index < length (rows_in (take (i + 1) pages)))
    → slice_get (rows_in pages) index
    ≡ slice_get (get_or pages i d).rows (index - length (rows_in (take i pages)))
row_in_page pages i index d lt from next =
    let page = get_or pages i d in
    let before = length (rows_in (take i pages)) in
    let rest = index - before in
    elim (slice_get_cases page.rows rest).1 [
      | inl found ↦
          let row = found.0 in
          let whole : before + rest ≡ index = omega (arith, from) in
          let within : index < length (rows_in pages) =
          omega (arith, whole, found.1, length-flat_map-take (λ (p : Page). p.rows) pages i d lt) in
          slice_get-get_or (rows_in pages) index row within
          ∙ ap (λ n. Some (get_or (rows_in pages) n row)) (sym whole)
          ∙ ap Some (get_or-flat_map (λ (p : Page). p.rows) pages i rest d row lt found.1)
          ∙ sym (slice_get-get_or page.rows rest row found.1)
      | inr past ↦
          slice_get_past (rows_in pages) index (behind past.0) ∙ sym past.1
    ]
  where
    behind : length (get_or pages i d).rows ≤ index - length (rows_in (take i pages)) → length (rows_in pages) ≤ index
    behind past = elim (cases_lt (i + 1) (length pages)) [
      | inl more ↦ absurd (omega (arith, next more, after_page pages i d lt, past, from))
      | inr last ↦
          let all : length (rows_in (take (i + 1) pages)) ≡ length (rows_in pages) =
          ap (λ l. length (rows_in l)) (take_all (i + 1) pages last) in
          omega (arith, all, after_page pages i d lt, past, from)
    ]

-- where no page begins at or before an index, there are no pages
pub none_begun : (pages : List Page) (len index : ℕ) → ArePages pages len → AreBegun pages index 0
    → slice_get (rows_in pages) index ≡ None
none_begun [] len index are point = slice_get_past [] index (omega arith)
none_begun (page ∷ pages) len index are point =
    let late = leb-false page.start index (point.1 0 page (omega arith) (omega arith)) in
    absurd (omega (arith, late, are.starts 0 page (omega arith)))

-- the last page that begins at or before an index
pub record HasRow (pages : List Page) (index : ℕ) (page : Page) : Type 0 where
  pub begins : page.start ≤ index
  pub row : slice_get (rows_in pages) index ≡ slice_get page.rows (index - page.start)

pub last_begun : (pages : List Page) (len index begun : ℕ) (d : Page) → ArePages pages len → begun ≤ length pages
    → AreBegun pages index begun → (begun ≡ 0 → ⊥) → HasRow pages index (get_or pages (begun - 1) d)
last_begun pages len index begun d are bound point some =
    let i = begun - 1 in
    let one_more : i + 1 ≡ begun = omega (arith, some) in
    let lt : i < length pages = omega (arith, one_more, bound) in
    let start = are.starts i d lt in
    let begins = leb-true (get_or pages i d).start index (point.0 i d (omega arith) (omega (arith, one_more))) in
    let next : i + 1 < length pages → index < length (rows_in (take (i + 1) pages)) = λ more.
    let late = leb-false (get_or pages (i + 1) d).start index
    (point.1 (i + 1) d (omega (arith, one_more)) (omega (arith, more))) in
    omega (arith, late, are.starts (i + 1) d more) in
    record {
      begins = begins;
      row = row_in_page pages i index d lt (omega (arith, begins, start)) next
          ∙ ap (λ n. slice_get (get_or pages i d).rows (index - n)) (sym start);
    }
